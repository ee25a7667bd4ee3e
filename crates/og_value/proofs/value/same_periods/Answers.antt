use Rattle.std.proofs.Common.{◌∙◌, ap, ap₂, ◌&&◌}
use Rattle.std.proofs.lemmas.Result.{IfOk-weaker}
use Rattle.og_base.specs.Ranges.{holds_day}
use Rattle.og_value.proofs.RowLemmas.{periods_days}
use Rattle.og_value.proofs.value.same_periods.Goals as goal

pub returns : goal.returns
returns c =
    IfOk-weaker c.meet.result _ _ (λ s met d day.
    periods_days c.args.i c.args.j c.start.result c.start-2.result c.end.result c.end-2.result d (holds_day s d)
    c.start.ensures.point c.start-2.ensures.point c.end.ensures.point c.end-2.ensures.point
    (met d ∙ ap₂ (λ a b. a && b) (ap (λ r. holds_day r d) c.in_ok-starts.ensures ∙ c.eq_days.ensures d day) (ap (λ r. holds_day r d) c.in_ok-ends.ensures ∙ c.eq_days-2.ensures d day))) c.meet.ensures
