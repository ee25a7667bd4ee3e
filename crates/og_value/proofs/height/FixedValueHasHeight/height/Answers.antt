use Rattle.og_value.proofs.height.FixedValueHasHeight.height.Goals as goal

pub returns-in-Period : goal.returns-in-Period
returns-in-Period c = rw c.in-Period.is (c.start_height.ensures c.in-Period.period.end)
