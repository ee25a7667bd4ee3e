use Rattle.og_time.proofs.PointOrder.{point_at-least}
use Rattle.og_time.proofs.point.OngoingPoint.least.Goals as goal

pub returns-clause-value : goal.returns-clause-value
returns-clause-value c d r = rw (← c.self.view_is, ← c.other.view_is, c.earlier.ensures, c.earlier-2.ensures) (point_at-least _ _ d c.self.invariant.ordered c.other.invariant.ordered)
