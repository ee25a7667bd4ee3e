-- Numbers in rows, and what stands beside a row of the first one.
use Rattle.std.specs.Prelude.{◌≡◌, ◌≢◌, ℕ, ℤ, pos, List, Option, None, Some, slice_get}
use Rattle.og_value.specs.declared.value.Value.{Value}
use Rattle.og_value.specs.declared.value.Value.TheVariants as v

-- the number that is there, where there is one
abbrev pub number_in : Option Value → Option ℤ
number_in (Some (v.Int n)) = Some n
number_in _ = None

-- the number that stands at a place, where a number stands there
abbrev pub number_at : List Value → ℕ → Option ℤ
number_at values place = number_in (slice_get values place)

-- the number stands first, or is 0 and says nothing
abbrev pub IsHead : List Value → ℤ → Type 0
IsHead values n = n ≢ pos 0 → number_at values 0 ≡ Some n
