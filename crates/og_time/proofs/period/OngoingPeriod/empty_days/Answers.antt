use Rattle.std.proofs.Common.{◌∙◌}
use Rattle.og_time.specs.Point.{point_at}
use Rattle.og_time.proofs.PointOrder.{int_le-not}
use Rattle.og_time.proofs.period.OngoingPeriod.empty_days.Goals as goal

pub returns : goal.returns
returns c d r = c.le_days.ensures d r ∙ rw (← c.self.view_is) (int_le-not (point_at c.self.inside.end d) (point_at c.self.inside.start d))
