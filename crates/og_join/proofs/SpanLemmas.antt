-- The spans of the rows of a relation: which are added, and that they rise once they are sorted.
use Rattle.std.proofs.Common.{◌≡◌, ◌+◌, ◌<◌, ◌||◌, ◌&&◌, ◌≤ℤ◌, ℕ, ℤ, Bool, true, false, List, [], ◌∷◌, length, get_or, take, refl, sym, ap, ◌∙◌, subst, is_lt, int_cmp, int_lt, arith}
use Rattle.std.specs.Cmp.{int_cmp_is}
use Rattle.std.specs.List.{list_any}
use Rattle.std.specs.List.Sorted.{IsSortedByKey}
use Rattle.std.specs.declared.cmp.Ordering.TheVariants.{Less, Equal, Greater}
use Rattle.std.proofs.lemmas.Bool.{true≢false}
use Rattle.std.proofs.lemmas.Int.{ints}
use Rattle.std.proofs.lemmas.List.{take_more}
use Rattle.og_base.specs.Ranges.{Range}
use Rattle.og_base.specs.declared.range.FixedPeriod.{FixedPeriod}
use Rattle.og_base.proofs.BoundaryLemmas.{by_day}
use Rattle.og_join.specs.Overlaps.{Rises}
use Rattle.og_join.specs.Places.{is_at}
use Rattle.og_join.specs.Tried.{has_days, has_span}
use Rattle.og_join.proofs.OverlapLemmas.{NoneBelow-rising, add_one}
use Rattle.og_join.proofs.PlaceTests.{is_at-get, list_any-push}

-- a number that is not less is no lower
no_less : (a b : ℤ) → is_lt (int_cmp b a) ≡ false → a ≤ℤ b
no_less a b h = by_day b a (λ l _. absurd (true≢false (ap is_lt (int_cmp_is b a Less l) ∙ h))) (λ l _. l)

-- what compares as less is less
pub less_test : (a b : ℤ) → true ≡ is_lt (int_cmp a b) → int_lt a b ≡ true
less_test a b h =
    by_day a b (λ _ e. e)
    (λ l _. by_day b a
    (λ k _. absurd (true≢false (h ∙ sym (ap is_lt (int_cmp_is a b Greater k)))))
    (λ k _. absurd (true≢false (h ∙ sym (ap is_lt (int_cmp_is a b Equal (omega (arith, ints, l, k))))))))

-- what stands one place on stands behind the head
next : {E : Type 0} (x : E) (xs : List E) (k : ℕ) (d : E) → get_or (x ∷ xs) (k + 1) d ≡ get_or xs k d
next x xs k d = ap (λ n. get_or (x ∷ xs) n d) (add_one k)

-- a list that is sorted by a day rises
pub Rises-sorted : {E : Type 0} (lo : E → ℤ) (xs : List E) → IsSortedByKey lo int_cmp xs → Rises lo xs
Rises-sorted lo [] h = tt
Rises-sorted lo (x ∷ []) h = (tt, tt)
Rises-sorted lo (x ∷ y ∷ zs) h =
    let rest : Rises lo (y ∷ zs) = Rises-sorted lo (y ∷ zs) (λ k d a b.
    subst (λ u. is_lt (int_cmp (lo u) (lo (get_or (y ∷ zs) k d))) ≡ false) (next x (y ∷ zs) (k + 1) d)
    (subst (λ v. is_lt (int_cmp (lo (get_or (x ∷ y ∷ zs) (k + 1 + 1) d)) (lo v)) ≡ false) (next x (y ∷ zs) k d)
    (h (k + 1) d (omega arith) (omega (arith, b))))) in
    (NoneBelow-rising lo lo (lo x) y zs (no_less (lo x) (lo y) (h 0 x (omega arith) (omega arith))) rest, rest)

-- the span of a row is added where it has days
pub span_added : {R : Type 0} (span_of : R → FixedPeriod) (t : ℤ → ℤ → R × List Range → Bool) (rel : List (R × List Range)) (i : ℕ) (p : R × List Range) (span : FixedPeriod)
    → i < length rel → span ≡ span_of (get_or rel i p).0 → int_lt span.start span.end ≡ true → is_at (t span.start span.end) rel i ≡ has_span span_of t (get_or rel i p)
span_added span_of t rel i p span place is some =
    is_at-get (t span.start span.end) rel i p place
    ∙ sym (ap (λ b. b && t span.start span.end (get_or rel i p)) some)
    ∙ ap (λ s. has_days s && t s.start s.end (get_or rel i p)) is

-- some member of a list that has one
some_member : {A : Type 0} (xs : List A) (i : ℕ) → i < length xs → A
some_member [] i h = absurd (omega (arith, h))
some_member (x ∷ xs) i h = x

-- the test of some of the first members and one more
pub list_any-more : {A : Type 0} (p : A → Bool) (xs : List A) (i : ℕ) (before after : Bool) → i < length xs → before ≡ list_any p (take i xs)
    → ((x : A) → after ≡ (before || p (get_or xs i x))) → after ≡ list_any p (take (i + 1) xs)
list_any-more p xs i before after place first step =
    let x = some_member xs i place in
    step x ∙ ap (λ b. b || p (get_or xs i x)) first
    ∙ sym (list_any-push p (take i xs) (take (i + 1) xs) (get_or xs i x) (p (get_or xs i x)) (take_more xs i x place) refl)
