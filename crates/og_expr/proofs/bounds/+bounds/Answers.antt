use Rattle.std.proofs.Common.{◌∙◌, ap, sym}
use Rattle.og_expr.specs.Bounds.{may_hold}
use Rattle.og_expr.proofs.BoundLemmas.{may_hold-And, may_hold-Or}
use Rattle.og_expr.proofs.bounds.+bounds.Goals as goal

pub may_hold-returns-in-And : goal.may_hold-returns-in-And
may_hold-returns-in-And t c = c.all_may_hold.ensures ∙ sym (may_hold-And c.args.columns.now c.in-And.parts) ∙ ap (may_hold c.args.columns.now) (sym c.in-And.is)

pub may_hold-returns-in-Or : goal.may_hold-returns-in-Or
may_hold-returns-in-Or t c = c.any_may_hold.ensures ∙ sym (may_hold-Or c.args.columns.now c.in-Or.parts) ∙ ap (may_hold c.args.columns.now) (sym c.in-Or.is)
