-- The order of fixed values and of rows of them.
use Rattle.std.specs.Prelude.{ℕ, List}
use Rattle.std.specs.declared.cmp.Ordering.{Ordering}
use Rattle.std.specs.Ordering.{int_cmp, nat_cmp, ordering_then}
use Rattle.std.specs.Cmp.Lexicographic.{slice_cmp}
use Rattle.og_base.specs.declared.range.FixedPeriod.{FixedPeriod}
use Rattle.og_value.specs.declared.value.FixedValue.{FixedValue}
use Rattle.og_value.specs.declared.value.FixedValue.TheVariants.{Int, Text, Date, Period}

-- periods go by their starts, and then by their ends
abbrev pub period_order : FixedPeriod → FixedPeriod → Ordering
period_order p q = ordering_then (int_cmp p.start q.start) (int_cmp p.end q.end)

-- numbers come before texts, texts before days, days before periods
abbrev pub rank : FixedValue → ℕ
rank (Int n) = 0
rank (Text t) = 1
rank (Date a) = 2
rank (Period p) = 3

-- values of one kind go by number, by bytes, by day or as periods do, and others by their kinds
abbrev pub value_order : FixedValue → FixedValue → Ordering
value_order (Int m) (Int n) = int_cmp m n
value_order (Text s) (Text t) = slice_cmp nat_cmp s t
value_order (Date a) (Date b) = int_cmp a b
value_order (Period p) (Period q) = period_order p q
value_order x y = nat_cmp (rank x) (rank y)

-- rows go from the left, and a front of a row comes before the row
abbrev pub row_order : List FixedValue → List FixedValue → Ordering
row_order = slice_cmp value_order
