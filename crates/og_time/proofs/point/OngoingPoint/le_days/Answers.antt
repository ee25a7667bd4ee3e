use Rattle.std.proofs.Common.{◌∙◌}
use Rattle.og_time.proofs.PointOrder.{not_parted}
use Rattle.og_time.proofs.point.OngoingPoint.le_days.Goals as goal

pub returns : goal.returns
returns c d r = c.within.ensures d r ∙ rw (← c.self.view_is, ← c.other.view_is, c.parted_before-before.ensures, c.parted_after-after.ensures) (not_parted _ _ d c.other.invariant.ordered c.self.invariant.ordered r)
