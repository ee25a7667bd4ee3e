use Rattle.std.proofs.Common.{◌++◌, ◌∙◌, ap, ap₂}
use Rattle.std.proofs.lemmas.List.{append-nil}
use Rattle.og_expr.specs.Bounds.{may_hold}
use Rattle.og_expr.proofs.row_bounds.RowBounds.all_may_hold.Goals as goal

pub returns : goal.returns
returns c = c.may_hold.ensures ∙ ap₂ may_hold (ap (λ none. c.args.row.now ++ none) c.self.invariant.0 ∙ append-nil c.args.row.now) c.self.view_is
