use Rattle.std.proofs.Common.{◌∙◌, ◌&&◌, int_lt, refl, ap₂}
use Rattle.og_time.proofs.PredicateDays.{of_same, at_most, alone}
use Rattle.og_time.proofs.period.OngoingPeriod.contains.Goals as goal

pub returns : goal.returns
returns c d i =
    let from = at_most d c.start.ensures.point refl (c.le_days-from.ensures d i) in
    let to = of_same int_lt d refl c.end.ensures.point (c.lt_days-to.ensures d i) in
    rw c.of.ensures (c.in_ok-days.ensures d
    ∙ alone (alone (ap₂ (λ x y. x && y) from to) (c.every_day.ensures d i)) (c.every_day-2.ensures d i))
