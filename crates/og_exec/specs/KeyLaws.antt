-- The order of keys whose first value stands apart is that of their values.
use Rattle.std.proofs.Common.{◌≡◌, true, false, List, [], ◌∷◌, refl, ap}
use Rattle.std.specs.Cmp.Lexicographic.{slice_cmp}
use Rattle.std.specs.Ordering.{eq_by_cmp, is_eq}
use Rattle.og_base.specs.Set.{IsExact}
use Rattle.og_value.specs.Exact.{rows_exact, values_ordered}
use Rattle.og_query.specs.Queries.{Fixed}
use Rattle.og_plan.specs.declared.plan.ColPair.{ColPair}
use Rattle.og_exec.specs.ColumnKeys.{apart, column_key}
use Rattle.og_exec.specs.Keys.{key, have_one_key}
use Rattle.og_exec.specs.contracts.keys.ColumnKeyOrd.TheImpl as derived

-- only keys that are the same tie
pub keys_exact : IsExact derived.cmp-value.it
keys_exact x y tied = ap apart (rows_exact (x.first ∷ x.rest) (y.first ∷ y.rest) tied)

-- keys tie with their first values apart where they tie
pub tie_apart : (pairs : List ColPair) (x y : Fixed) → eq_by_cmp derived.cmp-value.it (column_key true pairs x) (column_key false pairs y) ≡ have_one_key pairs x y
tie_apart [] x y = refl
tie_apart (pair ∷ pairs) x y =
    ap is_eq (λ i. slice_cmp (λ a b. values_ordered a b i) (key true (pair ∷ pairs) x) (key false (pair ∷ pairs) y))
