use Rattle.std.proofs.Common.{◌∙◌, ap, sym}
use Rattle.og_sql_outside.specs.Outside.{outside_cond}
use Rattle.og_sql_outside.proofs.Equations.{outside-And, outside-Or}
use Rattle.og_sql_outside.proofs.trees.+conditions.Goals as goal

pub cond_outside-returns-in-And : goal.cond_outside-returns-in-And
cond_outside-returns-in-And t c = c.conds_outside.ensures ∙ sym (outside-And c.in-And.parts) ∙ ap outside_cond (sym c.in-And.is)

pub cond_outside-returns-in-Or : goal.cond_outside-returns-in-Or
cond_outside-returns-in-Or t c = c.conds_outside-in-Or.ensures ∙ sym (outside-Or c.in-Or.parts) ∙ ap outside_cond (sym c.in-Or.is)
