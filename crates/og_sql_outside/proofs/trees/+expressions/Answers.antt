use Rattle.std.proofs.Common.{◌∙◌, ap, sym}
use Rattle.og_sql_outside.specs.Outside.{outside_expr}
use Rattle.og_sql_outside.proofs.Equations.{outside-Call}
use Rattle.og_sql_outside.proofs.trees.+expressions.Goals as goal

pub expr_outside-returns-in-Call : goal.expr_outside-returns-in-Call
expr_outside-returns-in-Call t c = c.exprs_outside.ensures ∙ sym (outside-Call c.in-Call.func c.in-Call.args) ∙ ap outside_expr (sym c.in-Call.is)
