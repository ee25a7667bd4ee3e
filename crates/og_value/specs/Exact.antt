-- The order of values and of rows is total, and tells them apart.
use Rattle.std.proofs.Common.{◌≡◌, ℤ, [], ◌∷◌, Bool, true, false, Ordering, Less, Equal, Greater, refl, sym, ap, ap₂, subst, ◌∙◌}
use Rattle.std.specs.Cmp.{IsEquivalence, IsPartialOrder, IsTotalOrder, eq_by_cmp_equiv, partial_order_from_total}
use Rattle.std.specs.Ordering.{as_partial_cmp, eq_by_cmp, int_cmp, nat_cmp, ordering_then}
use Rattle.std.specs.Cmp.Lexicographic.{slice_cmp, lists_total, texts_ties, same_text}
use Rattle.og_base.specs.declared.range.FixedPeriod.{FixedPeriod}
use Rattle.og_base.specs.Set.{IsExact}
use Rattle.og_base.proofs.SetLemmas.{days_exact}
use Rattle.og_value.specs.contracts.value.FixedValueOrd.TheImpl as derived
use Rattle.og_value.specs.contracts.value.FixedValueOrd.TheImpl.Laws as derived_laws
use Rattle.og_value.specs.declared.value.FixedValue.{FixedValue}
use Rattle.og_value.specs.declared.value.FixedValue.TheVariants.{Int, Text, Date, Period}
use Rattle.og_value.specs.Order.{period_order, value_order, row_order}

-- where two steps tie, both do
then_equal : (a b : Ordering) → ordering_then a b ≡ Equal → (a ≡ Equal) × (b ≡ Equal)
then_equal Less b e = cc
then_equal Equal b e = (refl, e)
then_equal Greater b e = cc

-- an order of lists from the left tells lists apart where the order of their members does
lists_exact : {K : Type 0} (R : K → K → Ordering) → IsExact R → IsExact (slice_cmp R)
lists_exact R h [] [] e = refl
lists_exact R h [] (y ∷ ys) e = cc
lists_exact R h (x ∷ xs) [] e = cc
lists_exact R h (x ∷ xs) (y ∷ ys) e =
    let b = then_equal (R x y) (slice_cmp R xs ys) e in ap₂ (λ z zs. z ∷ zs) (h x y b.0) (lists_exact R h xs ys b.1)

texts_exact : IsExact (slice_cmp nat_cmp)
texts_exact xs ys e = same_text xs ys (sym (texts_ties xs ys ∙ ap tied e))
  where
    tied : Ordering → Bool
    tied Equal = true
    tied _ = false

periods_exact : IsExact period_order
periods_exact p q e =
    let b = then_equal (int_cmp p.start q.start) (int_cmp p.end q.end) e in
    ap₂ period_of (days_exact.exact p.start q.start b.0) (days_exact.exact p.end q.end b.1)
  where
    period_of : ℤ → ℤ → FixedPeriod
    period_of s t = record { start = s; end = t }

-- the order of values tells values apart
values_exact : IsExact value_order
values_exact (Int a) (Int b) e = ap Int (days_exact.exact a b e)
values_exact (Int a) (Text b) e = cc
values_exact (Int a) (Date b) e = cc
values_exact (Int a) (Period b) e = cc
values_exact (Text a) (Int b) e = cc
values_exact (Text a) (Text b) e = ap Text (texts_exact a b e)
values_exact (Text a) (Date b) e = cc
values_exact (Text a) (Period b) e = cc
values_exact (Date a) (Int b) e = cc
values_exact (Date a) (Text b) e = cc
values_exact (Date a) (Date b) e = ap Date (days_exact.exact a b e)
values_exact (Date a) (Period b) e = cc
values_exact (Period a) (Int b) e = cc
values_exact (Period a) (Text b) e = cc
values_exact (Period a) (Date b) e = cc
values_exact (Period a) (Period b) e = ap Period (periods_exact a b e)

-- the order that values have is that of their definition
pub values_ordered : (x y : FixedValue) → derived.cmp-value.it x y ≡ value_order x y
values_ordered (Int a) (Int b) = refl
values_ordered (Int a) (Text b) = refl
values_ordered (Int a) (Date b) = refl
values_ordered (Int a) (Period b) = refl
values_ordered (Text a) (Int b) = refl
values_ordered (Text a) (Text b) = refl
values_ordered (Text a) (Date b) = refl
values_ordered (Text a) (Period b) = refl
values_ordered (Date a) (Int b) = refl
values_ordered (Date a) (Text b) = refl
values_ordered (Date a) (Date b) = refl
values_ordered (Date a) (Period b) = refl
values_ordered (Period a) (Int b) = refl
values_ordered (Period a) (Text b) = refl
values_ordered (Period a) (Date b) = refl
values_ordered (Period a) (Period b) = refl

-- the order of rows tells rows apart
pub rows_apart : IsExact row_order
rows_apart = lists_exact value_order values_exact

-- so does the order that rows have
pub rows_exact : IsExact (slice_cmp derived.cmp-value.it)
rows_exact = lists_exact derived.cmp-value.it (λ x y e. values_exact x y (sym (values_ordered x y) ∙ e))

-- the order of rows is total
pub rows_total : IsTotalOrder row_order
rows_total = lists_total (subst IsTotalOrder (λ i x y. values_ordered x y i) derived_laws.total-law)

-- rows that tie are equal, which is an equivalence
pub rows_equal : IsEquivalence (eq_by_cmp row_order)
rows_equal = eq_by_cmp_equiv rows_total

-- the order of rows is a partial one too
pub rows_partial : IsPartialOrder (eq_by_cmp row_order) (as_partial_cmp row_order)
rows_partial = partial_order_from_total rows_total
