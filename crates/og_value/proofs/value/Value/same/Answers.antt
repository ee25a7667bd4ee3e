use Rattle.std.proofs.Common.{◌∙◌, ap}
use Rattle.std.proofs.lemmas.Result.{IfOk-weaker}
use Rattle.og_base.specs.Ranges.{holds_day}
use Rattle.og_value.proofs.RowLemmas.{points_same}
use Rattle.og_value.proofs.value.Value.same.Goals as goal

pub returns-in-Point-Point : goal.returns-in-Point-Point
returns-in-Point-Point c =
    IfOk-weaker c.of_cut.result _ _ (λ s is d day.
    rw (c.in-Point-Point.is-0, c.in-Point-Point.is-1) (points_same c.in-Point-Point.p c.in-Point-Point.q d (holds_day s d) (ap (λ r. holds_day r d) is ∙ c.eq_days.ensures d day))) c.of_cut.ensures
