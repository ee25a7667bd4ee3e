-- Tests of one number of a row, and of which tests they tell.
use Rattle.std.specs.Prelude.{◌≡◌, ◌&&◌, ℤ, Bool, true, false, int_le, List, Option, None, Some}
use Rattle.og_value.specs.Heads.{number_at}
use Rattle.og_value.specs.declared.value.Value.{Value}
use Rattle.og_reduce.specs.Sieves.{Test, row_passes}
use Rattle.og_reduce.specs.declared.range_test.RangeTest.{RangeTest}

-- a number that lies between two, or none
abbrev pub is_within : ℤ → ℤ → Option ℤ → Bool
is_within least greatest (Some n) = int_le least n && int_le n greatest
is_within least greatest None = true

-- a row may pass the test: what stands in the column lies between its numbers, or is no number
abbrev pub may_pass : RangeTest → List Value → Bool
may_pass test row = is_within test.least test.greatest (number_at row test.column)

-- no row that may not pass the test passes these tests
abbrev pub Tells : RangeTest → List Test → Type 0
Tells test tests = (row : List Value) → may_pass test row ≡ false → row_passes tests row ≡ false
