use Rattle.std.proofs.Common.{refl}
use Rattle.std.proofs.lemmas.Result.{IfOk-weaker}
use Rattle.og_base.specs.Ranges.{holds_day}
use Rattle.og_ops.proofs.DayLemmas.{hit_truth}
use Rattle.og_ops.proofs.pair.days_of_hit.Goals as goal

pub returns : goal.returns
returns g c =
    IfOk-weaker c.meet-2.result _ _ (λ days e d r. hit_truth (holds_day days d) _ _ _ _ (e d) (c.in_ok-both.ensures d) (c.in_ok-met.ensures d r)) c.meet-2.ensures
