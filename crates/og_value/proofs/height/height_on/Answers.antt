use Rattle.std.proofs.Common.{subst}
use Rattle.og_value.specs.Heights.{IsValueHeight}
use Rattle.og_value.specs.declared.value.FixedValue.TheVariants as fixed
use Rattle.og_value.proofs.height.height_on.Goals as goal

pub returns-in-Period : goal.returns-in-Period
returns-in-Period c =
    rw c.in-Period.is (subst (λ period. IsValueHeight (fixed.Period period) c.start_height.result) c.at-in-Period.ensures (c.start_height.ensures c.at-in-Period.result.end))
