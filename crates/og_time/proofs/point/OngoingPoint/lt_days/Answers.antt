use Rattle.std.proofs.Common.{◌∙◌}
use Rattle.og_time.proofs.PointOrder.{parted}
use Rattle.og_time.proofs.point.OngoingPoint.lt_days.Goals as goal

pub returns : goal.returns
returns c d r = c.outside.ensures d r ∙ rw (← c.self.view_is, ← c.other.view_is, c.parted_before-before.ensures, c.parted_after-after.ensures) (parted _ _ d c.self.invariant.ordered c.other.invariant.ordered r)
