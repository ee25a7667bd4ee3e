use Rattle.std.proofs.Common.{◌∙◌, ap, sym}
use Rattle.og_query.specs.Steady.{is_steady_cond}
use Rattle.og_query.proofs.Equations.{is_steady-And, is_steady-Or}
use Rattle.og_query.proofs.steady.+steady_conditions.Goals as goal

pub is_steady_cond-returns-in-And : goal.is_steady_cond-returns-in-And
is_steady_cond-returns-in-And t c = c.are_steady_conds.ensures ∙ sym (is_steady-And c.in-And.parts) ∙ ap is_steady_cond (sym c.in-And.is)

pub is_steady_cond-returns-in-Or : goal.is_steady_cond-returns-in-Or
is_steady_cond-returns-in-Or t c = c.are_steady_conds-in-Or.ensures ∙ sym (is_steady-Or c.in-Or.parts) ∙ ap is_steady_cond (sym c.in-Or.is)
