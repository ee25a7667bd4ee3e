-- Where the boundaries of a set lie.
use Rattle.std.specs.Prelude.{ℤ, List, ◌<◌, length, ⊤}
use Rattle.og_base.specs.declared.rt_set.boundaries.Held.{Held}
use Rattle.og_base.specs.declared.rt_set.boundaries.Held.TheVariants.{Few, Many}

-- the days
abbrev pub held_days : Held → List ℤ
held_days (Few days) = days
held_days (Many days) = days.items

-- days in memory are more than four
abbrev pub IsHeld : Held → Type 0
IsHeld (Few days) = ⊤
IsHeld (Many days) = 4 < length days.items
