-- Tests of one column of a row, and of which conditions they tell.
use Rattle.std.specs.Prelude.{◌≡◌, ◌&&◌, ℕ, ℤ, Bool, true, false, int_le, List, Option, Some, None, slice_get}
use Rattle.std.specs.List.{list_all}
use Rattle.og_value.specs.declared.value.Value.{Value}
use Rattle.og_value.specs.declared.value.Value.TheVariants as v
use Rattle.og_query.specs.declared.condition.Cond.{Cond}
use Rattle.og_value.specs.declared.term.Cmp.{Cmp}
use Rattle.og_expr.specs.Bounds.{may_compare, may_hold, unless_known}
use Rattle.og_expr.specs.declared.column_test.ColumnTest.{ColumnTest}

-- whether a number is no less than a bound, if there is one
abbrev pub is_above : Option ℤ → ℤ → Bool
is_above None n = true
is_above (Some least) n = int_le least n

-- whether it is no greater
abbrev pub is_below : Option ℤ → ℤ → Bool
is_below None n = true
is_below (Some greatest) n = int_le n greatest

-- whether it lies between both
abbrev pub is_between : Option ℤ → Option ℤ → ℤ → Bool
is_between least greatest n = is_above least n && is_below greatest n

-- whether what stands in a column is a number between both; where there is no such column it counts as one
abbrev pub stands_between : Option ℤ → Option ℤ → Option Value → Bool
stands_between least greatest None = true
stands_between least greatest (Some (v.Int n)) = is_between least greatest n
stands_between least greatest (Some _) = false

-- whether a row may pass a test: a number between its bounds stands in the column, or there is no such column
abbrev pub may_pass : ColumnTest → List Value → Bool
may_pass test row = stands_between test.least test.greatest (slice_get row test.column)

-- whether what stands in a column may compare so with a number
abbrev pub compares_so : ℕ → Cmp → ℤ → List Value → Bool
compares_so column op number row = unless_known (may_compare op) (slice_get row column) (Some (v.Int number))

-- of no row that may not pass the test may the condition hold
abbrev pub Tells : ColumnTest → Cond → Type 0
Tells test cond = (row : List Value) → may_pass test row ≡ false → may_hold row cond ≡ false

-- and of none all of these conditions
abbrev pub TellsAll : ColumnTest → List Cond → Type 0
TellsAll test conds = (row : List Value) → may_pass test row ≡ false → list_all (may_hold row) conds ≡ false
