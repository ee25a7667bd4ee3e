use Rattle.std.proofs.Common.{◌∙◌, ap, sym}
use Rattle.og_query.specs.Steady.{is_steady_expr}
use Rattle.og_query.proofs.Equations.{is_steady-Call}
use Rattle.og_query.proofs.steady.+steady_expressions.Goals as goal

pub is_steady_expr-returns-in-Call : goal.is_steady_expr-returns-in-Call
is_steady_expr-returns-in-Call t c = c.are_steady_exprs.ensures ∙ sym (is_steady-Call c.in-Call.func c.in-Call.args) ∙ ap is_steady_expr (sym c.in-Call.is)
