-- The groups of a deadline.
use Rattle.std.proofs.Common.{◌≡◌, ℤ, true, ap}
use Rattle.std.specs.Int.{w64, cast_unsigned}
use Rattle.og_base.specs.GroupLaws.{share-first}
use Rattle.og_base.specs.Groups.{share_group}
use Rattle.og_base.specs.declared.row.Groups.{Groups}

-- both are the number of its day
abbrev pub day_groups : ℤ → Groups
day_groups day = record { first = cast_unsigned w64 day; second = cast_unsigned w64 day }

-- deadlines of one day share them
pub days_grouped : (a b : ℤ) → a ≡ b → share_group (day_groups a) (day_groups b) ≡ true
days_grouped a b e = share-first (day_groups a) (day_groups b) (ap (cast_unsigned w64) e)
