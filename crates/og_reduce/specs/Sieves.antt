-- Sieves: tests of the values in some columns of a row, and the rows that pass them.
use Rattle.std.specs.Prelude.{ℕ, suc, ℤ, pos, Bool, true, List, [], ◌∷◌, filter, slice_index_or}
use Rattle.std.specs.Cmp.Lexicographic.{slice_cmp}
use Rattle.std.specs.List.{list_all}
use Rattle.std.specs.Ordering.{int_cmp, nat_cmp}
use Rattle.og_rel.specs.Algebra.{is_in}
use Rattle.og_value.specs.Values.{row_at}
use Rattle.og_value.specs.declared.value.FixedValue.{FixedValue}
use Rattle.og_value.specs.declared.value.FixedValue.TheVariants as f
use Rattle.og_value.specs.declared.value.Value.{Value}
use Rattle.og_query.specs.Queries.{Fixed}
use Rattle.og_query.specs.Expressions.{no_value}
use Rattle.og_base.specs.Ranges.{Range}

-- a relation: rows with the days on which they are present
abbrev pub Relation : Type 0
Relation = List (List Value × List Range)

-- the value in a column of a row
abbrev pub column : Fixed → ℕ → FixedValue
column row place = slice_index_or row place no_value

-- numbers and texts
abbrev pub Keys : Type 0
Keys = List ℤ × List (List ℕ)

-- whether a number or a text is among these; a day and a period, which other days may change, always count as being so
abbrev pub is_among : Keys → FixedValue → Bool
is_among keys (f.Int n) = is_in int_cmp n keys.0
is_among keys (f.Text t) = is_in (slice_cmp nat_cmp) t keys.1
is_among keys (f.Date a) = true
is_among keys (f.Period p) = true

-- a test of rows: a column, and the numbers and texts that may stand in it
abbrev pub Test : Type 0
Test = ℕ × Keys

-- whether what stands in the column of a test is among its numbers and texts
abbrev pub meets : Fixed → Test → Bool
meets row test = is_among test.1 (column row test.0)

-- whether a row passes all tests
abbrev pub passes : List Test → Fixed → Bool
passes tests row = list_all (meets row) tests

-- whether a row of a relation meets a test: as it is on one day, since no day changes that
abbrev pub row_meets : List Value → Test → Bool
row_meets row test = meets (row_at row (pos 0)) test

-- whether it passes all tests
abbrev pub row_passes : List Test → List Value → Bool
row_passes tests row = list_all (row_meets row) tests

-- the rows of a relation that pass all tests
abbrev pub sifted : List Test → Relation → Relation
sifted tests rel = filter (λ p. row_passes tests p.0) rel

-- the tests of the columns from a place on, where that stands in them
abbrev pub tests_from : ℕ → List Keys → List Test
tests_from place [] = []
tests_from place (keys ∷ more) = (place, keys) ∷ tests_from (suc place) more
