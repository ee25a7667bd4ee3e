use Rattle.std.proofs.Common.{◌∙◌}
use Rattle.og_base.specs.Ranges.{holds_day, ranges_of_cut}
use Rattle.og_time.proofs.PredicateDays.{nonempty, paired}
use Rattle.og_time.proofs.period.OngoingPeriod.both_nonempty.Goals as goal

pub returns : goal.returns
returns c d i =
    rw c.of.ensures (c.in_ok-days.ensures d ∙ paired (holds_day (ranges_of_cut c.args.first) d) (holds_day (ranges_of_cut c.args.second) d)
    (nonempty c.args.self d c.start.ensures.point c.end.ensures.point (c.lt_days-mine.ensures d i))
    (nonempty c.args.other d c.start-2.ensures.point c.end-2.ensures.point (c.lt_days-theirs.ensures d i)))
