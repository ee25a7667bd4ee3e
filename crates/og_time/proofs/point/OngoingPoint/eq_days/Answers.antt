use Rattle.std.proofs.Common.{◌∙◌}
use Rattle.og_time.proofs.PointOrder.{neither}
use Rattle.og_time.proofs.point.OngoingPoint.eq_days.Goals as goal

pub returns : goal.returns
returns c d r =
    c.within.ensures d r
    ∙ rw (← c.self.view_is, ← c.other.view_is, c.later-before.ensures, c.earlier-after.ensures, c.parted_before.ensures, c.parted_before-2.ensures, c.parted_after.ensures, c.parted_after-2.ensures) (neither _ _ d c.self.invariant.ordered c.other.invariant.ordered r)
