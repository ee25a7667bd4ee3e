use Rattle.std.proofs.Common.{◌∙◌, ◌&&◌, ap}
use Rattle.std.proofs.lemmas.Result.{IfOk-weaker}
use Rattle.og_time.specs.FixedOperations.{are_nonempty}
use Rattle.og_time.specs.Period.{period_at}
use Rattle.og_time.proofs.PredicateDays.{at_most, alone}
use Rattle.og_time.proofs.period.OngoingPeriod.before.Goals as goal

pub returns : goal.returns
returns c =
    IfOk-weaker c.both_nonempty.result _ _
    (λ b f d i. f d i ∙ ap (λ t. are_nonempty (period_at c.args.self d) (period_at c.args.other d) && t)
    (alone (at_most d c.end.ensures.point c.start.ensures.point (c.le_days-comparison.ensures d i)) (c.every_day.ensures d i)))
    c.both_nonempty.ensures
