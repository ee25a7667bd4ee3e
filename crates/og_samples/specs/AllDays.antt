-- The span of all days.
use Rattle.og_base.specs.Calendar.{before_all, after_all}
use Rattle.og_base.specs.declared.range.FixedPeriod.{FixedPeriod}

-- from the one infinity to the other
abbrev pub all_days : FixedPeriod
all_days = record { start = before_all; end = after_all }
