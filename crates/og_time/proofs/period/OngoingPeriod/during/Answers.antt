use Rattle.std.proofs.Common.{◌∙◌, ◌&&◌, ap, ap₂}
use Rattle.std.proofs.lemmas.Result.{IfOk-weaker}
use Rattle.og_time.specs.FixedOperations.{are_nonempty}
use Rattle.og_time.specs.Period.{period_at}
use Rattle.og_time.proofs.PredicateDays.{at_most}
use Rattle.og_time.proofs.period.OngoingPeriod.during.Goals as goal

pub returns : goal.returns
returns c =
    IfOk-weaker c.both_nonempty.result _ _
    (λ b f d i. f d i ∙ ap (λ t. are_nonempty (period_at c.args.self d) (period_at c.args.other d) && t)
    (ap₂ (λ x y. x && y) (at_most d c.start.ensures.point c.start-2.ensures.point (c.le_days-first.ensures d i)) (at_most d c.end.ensures.point c.end-2.ensures.point (c.le_days-second.ensures d i))))
    c.both_nonempty.ensures
