-- Rows that are lent from a relation, with their keys.
use Rattle.std.specs.Prelude.{List, map}
use Rattle.std.specs.List.Sorted.{IsSortedBy}
use Rattle.std.specs.Ordering.{is_lt}
use Rattle.std.specs.declared.cmp.Ordering.{Ordering}
use Rattle.og_base.specs.Ranges.{Range}
use Rattle.og_ops.specs.declared.semijoins.KeyedRow.{KeyedRow}

-- the rows with their days
abbrev pub lent : {R K : Type 0} → List (KeyedRow R K) → List (R × List Range)
lent rows = map (λ s. (s.row.now, s.days.now)) rows

-- no key comes before that of a row which stands before it
abbrev pub ByKey : {R K : Type 0} → (K → K → Ordering) → List (KeyedRow R K) → Type 0
ByKey cmp rows = IsSortedBy (λ a b. is_lt (cmp a.key b.key)) rows
