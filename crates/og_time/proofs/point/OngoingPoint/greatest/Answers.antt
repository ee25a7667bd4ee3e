use Rattle.og_time.proofs.PointOrder.{point_at-greatest}
use Rattle.og_time.proofs.point.OngoingPoint.greatest.Goals as goal

pub returns-clause-value : goal.returns-clause-value
returns-clause-value c d r = rw (← c.self.view_is, ← c.other.view_is, c.later.ensures, c.later-2.ensures) (point_at-greatest _ _ d c.self.invariant.ordered c.other.invariant.ordered)
