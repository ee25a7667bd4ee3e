-- The elements of a list that pass a test and stand at none of some places, found one after the other.
use Rattle.std.proofs.Common.{◌≡◌, ◌==◌, ◌||◌, ◌++◌, ◌+◌, ◌-◌, ◌<◌, ◌≤◌, ℕ, zero, suc, Bool, true, false, cond, if◌then◌else◌, List, [], ◌∷◌, inl, inr, length, filter, get_or, take, ◌≢◌, refl, sym, ap, ap₂, subst, ◌∙◌, append-nil, arith}
use lib.Seq.{take-suc}
use Rattle.std.specs.List.{All, list_any}
use Rattle.std.proofs.lemmas.Bool.{cases_lt, eq-eqb, eqb-false, eqb-true, ne_eqb}
use Rattle.std.proofs.lemmas.List.Elements.{All-get_or, filter-append, filter_more}
use Rattle.og_base.specs.Ranges.{Range}
use Rattle.og_rel.specs.Relations.{HasDays, passing, stored}
use Rattle.og_rel.specs.Places.{ArePlaces, AreRising, others_at, others_from}
use Rattle.og_rel.proofs.PlaceLemmas.{nothing_and, others-nowhere, rising-lower}

-- places that rise behind a number are not it
behind-not : (i k : ℕ) (at : List ℕ) (end : ℕ) → i < k → AreRising k at end → list_any (λ j. j == i) at ≡ false
behind-not i k [] end less are = refl
behind-not i k (j ∷ at) end less are =
    let here : (j == i) ≡ false = ne_eqb j i (λ is. omega (arith, is, less, are.0)) in
    ap (λ b. b || list_any (λ j. j == i) at) here ∙ behind-not i (suc j) at end (omega (arith, less, are.0)) are.2

-- a place is one of some, and is none of them
pub is_among-at : (i k : ℕ) (at : List ℕ) → k < length at → get_or at k 0 ≡ i → list_any (λ j. j == i) at ≡ true
is_among-at i k [] there is = absurd (omega (arith, there))
is_among-at i zero (j ∷ at) there is = ap (λ b. b || list_any (λ j. j == i) at) (eq-eqb j i is)
is_among-at i (suc k) (j ∷ at) there is = ap (λ b. (j == i) || b) (is_among-at i k at (omega (arith, there)) is) ∙ or-true (j == i)
  where
    or-true : (b : Bool) → (b || true) ≡ true
    or-true true = refl
    or-true false = refl

pub is_among-none : (i : ℕ) (at : List ℕ) → ((j : ℕ) → j < length at → get_or at j 0 ≢ i) → list_any (λ j. j == i) at ≡ false
is_among-none i [] none = refl
is_among-none i (j ∷ at) none =
    ap (λ b. b || list_any (λ j. j == i) at) (ne_eqb j i (none 0 (omega arith))) ∙ is_among-none i at (λ k there. none (suc k) (omega (arith, there)))

module _ {X : Type 0} where
  others_from-one : (s : ℕ) (at : List ℕ) (end : ℕ) (xs : List X) (i : ℕ) (d : X) → AreRising s at end → i < length xs
      → others_from s at (take (suc i) xs) ≡ others_from s at (take i xs) ++ (if list_any (λ j. j == (s + i)) at then [] else get_or xs i d ∷ [])
  others_from-one s at end [] i d are there = absurd (omega (arith, there))
  others_from-one s [] end (x ∷ xs) i d are there =
      others-nowhere s (take (suc i) (x ∷ xs)) ∙ take-suc (x ∷ xs) i d there ∙ ap (λ l. l ++ get_or (x ∷ xs) i d ∷ []) (sym (others-nowhere s (take i (x ∷ xs))))
  others_from-one s (k ∷ at) end (x ∷ xs) zero d are there = by (s == k) refl
    where
      by : (b : Bool) → (s == k) ≡ b → (if b then others_from (suc s) at [] else x ∷ others_from (suc s) (k ∷ at) []) ≡ (if list_any (λ j. j == (s + 0)) (k ∷ at) then [] else x ∷ [])
      by true is = let e = eqb-true s k is in ap (λ b. if b || list_any (λ j. j == (s + 0)) at then [] else x ∷ []) (sym (eq-eqb k (s + 0) (omega (arith, e))))
      by false is =
          let apart = eqb-false s k is in
          ap (λ b. if b then [] else x ∷ []) (sym (behind-not (s + 0) (suc s) (k ∷ at) end (omega arith) (omega (arith, apart, are.0), are.1, are.2)))
  others_from-one s (k ∷ at) end (x ∷ xs) (suc i) d are there = by (s == k) refl (others_from-one (suc s) at end xs i d) (others_from-one (suc s) (k ∷ at) end xs i d)
    where
      across : suc s + i ≡ s + suc i
      across = omega arith

      one : List ℕ → Type 0
      one rest = AreRising (suc s) rest end → i < length xs
          → others_from (suc s) rest (take (suc i) xs) ≡ others_from (suc s) rest (take i xs) ++ (if list_any (λ j. j == (suc s + i)) rest then [] else get_or xs i d ∷ [])

      by : (b : Bool) → (s == k) ≡ b → one at → one (k ∷ at)
          → (if b then others_from (suc s) at (take (suc i) xs) else x ∷ others_from (suc s) (k ∷ at) (take (suc i) xs))
          ≡ (if b then others_from (suc s) at (take i xs) else x ∷ others_from (suc s) (k ∷ at) (take i xs)) ++ (if list_any (λ j. j == (s + suc i)) (k ∷ at) then [] else get_or xs i d ∷ [])
      by true is rest whole =
          let e = eqb-true s k is in
          let none : (k == (s + suc i)) ≡ false = ne_eqb k (s + suc i) (λ same. omega (arith, e, same)) in
          rest (rising-lower (suc s) (suc k) at end (omega (arith, e)) are.2) (omega (arith, there))
          ∙ ap (λ n. others_from (suc s) at (take i xs) ++ (if list_any (λ j. j == n) at then [] else get_or xs i d ∷ [])) across
          ∙ ap (λ b. others_from (suc s) at (take i xs) ++ (if b || list_any (λ j. j == (s + suc i)) at then [] else get_or xs i d ∷ [])) (sym none)
      by false is rest whole =
          let apart = eqb-false s k is in
          ap (λ l. x ∷ l)
          (whole (omega (arith, apart, are.0), are.1, are.2) (omega (arith, there))
          ∙ ap (λ n. others_from (suc s) (k ∷ at) (take i xs) ++ (if list_any (λ j. j == n) (k ∷ at) then [] else get_or xs i d ∷ [])) across)

  -- of the first elements and one more, those at none of some places
  pub others-one : (at : List ℕ) (end : ℕ) (xs : List X) (i : ℕ) (d : X) → ArePlaces at end → i < length xs
      → others_at at (take (i + 1) xs) ≡ others_at at (take i xs) ++ (if list_any (λ j. j == i) at then [] else get_or xs i d ∷ [])
  others-one at end xs i d are there =
      let next : i + 1 ≡ suc i = omega arith in
      ap (λ n. others_at at (take n xs)) next ∙ others_from-one 0 at end xs i d are there ∙ ap (λ n. others_at at (take i xs) ++ (if list_any (λ j. j == n) at then [] else get_or xs i d ∷ [])) (nothing_and i)

  module _ (keeps : X → Bool) (at : List ℕ) (end : ℕ) (xs : List X) (i : ℕ) (d : X) (are : ArePlaces at end) (there : i < length xs) where
    -- and of these those that pass a test: where the one does and stands at none of the places
    pub kept-one : list_any (λ j. j == i) at ≡ false → keeps (get_or xs i d) ≡ true → filter keeps (others_at at (take (i + 1) xs)) ≡ filter keeps (others_at at (take i xs)) ++ get_or xs i d ∷ []
    kept-one none is =
        ap (filter keeps) (others-one at end xs i d are there ∙ ap (λ b. others_at at (take i xs) ++ (if b then [] else get_or xs i d ∷ [])) none)
        ∙ filter-append keeps (others_at at (take i xs)) (get_or xs i d ∷ []) ∙ ap (λ b. filter keeps (others_at at (take i xs)) ++ cond b (get_or xs i d ∷ []) []) is

    -- where it stands at one
    pub kept-out : list_any (λ j. j == i) at ≡ true → filter keeps (others_at at (take (i + 1) xs)) ≡ filter keeps (others_at at (take i xs))
    kept-out is =
        ap (filter keeps) (others-one at end xs i d are there ∙ ap (λ b. others_at at (take i xs) ++ (if b then [] else get_or xs i d ∷ [])) is ∙ append-nil (others_at at (take i xs)))

    -- and where it does not pass
    pub kept-not : keeps (get_or xs i d) ≡ false → filter keeps (others_at at (take (i + 1) xs)) ≡ filter keeps (others_at at (take i xs))
    kept-not fails = by (list_any (λ j. j == i) at) refl
      where
        by : (b : Bool) → list_any (λ j. j == i) at ≡ b → filter keeps (others_at at (take (i + 1) xs)) ≡ filter keeps (others_at at (take i xs))
        by true is = kept-out is
        by false is =
            ap (filter keeps) (others-one at end xs i d are there ∙ ap (λ b. others_at at (take i xs) ++ (if b then [] else get_or xs i d ∷ [])) is)
            ∙ filter-append keeps (others_at at (take i xs)) (get_or xs i d ∷ [])
            ∙ ap (λ b. filter keeps (others_at at (take i xs)) ++ cond b (get_or xs i d ∷ []) []) fails ∙ append-nil (filter keeps (others_at at (take i xs)))

-- places that rise do not fall
pub rising-order : (s : ℕ) (at : List ℕ) (end j k : ℕ) → AreRising s at end → j < k → k < length at → get_or at j 0 < get_or at k 0
rising-order s [] end j k are less there = absurd (omega (arith, there))
rising-order s (p ∷ at) end j zero are less there = absurd (omega (arith, less))
rising-order s (p ∷ at) end zero (suc k) are less there = omega (arith, rising-least (suc p) at end k are.2 (omega (arith, there)))
  where
    rising-least : (s : ℕ) (at : List ℕ) (end k : ℕ) → AreRising s at end → k < length at → s ≤ get_or at k 0
    rising-least s [] end k are there = absurd (omega (arith, there))
    rising-least s (p ∷ at) end zero are there = are.0
    rising-least s (p ∷ at) end (suc k) are there = omega (arith, are.0, rising-least (suc p) at end k are.2 (omega (arith, there)))
rising-order s (p ∷ at) end (suc j) (suc k) are less there = rising-order (suc p) at end j k are.2 (omega (arith, less)) (omega (arith, there))

-- places that rise are places before any number that the last of them is below
pub rising-until : (s : ℕ) (at : List ℕ) (n m : ℕ) → AreRising s at n → get_or at (length at - 1) 0 < m → AreRising s at m
rising-until s [] n m are last = tt
rising-until s (p ∷ []) n m are last = (are.0, last, tt)
rising-until s (p ∷ j ∷ at) n m are last =
    let at_last : length (p ∷ j ∷ at) - 1 ≡ suc (length (j ∷ at) - 1) = omega arith in
    let rest = rising-until (suc p) (j ∷ at) n m are.2 (subst (λ k. get_or (p ∷ j ∷ at) k 0 < m) at_last last) in
    (are.0, omega (arith, rest.0, rest.1), rest)

module _ {R : Type 0} where
  -- a row that has days is stored with them
  stored-some : (row : R) (days : List Range) → days ≢ [] → stored row days ≡ (row, days) ∷ []
  stored-some row [] some = absurd (some refl)
  stored-some row (r ∷ rs) some = refl

  -- one of the rows of a relation, stored once more
  pub stored-copied : (rel : List (R × List Range)) (i : ℕ) (d : R × List Range) (row : R) (days : List Range) → i < length rel → All (λ p. HasDays p.1) rel
      → row ≡ (get_or rel i d).0 → days ≡ (get_or rel i d).1 → stored row days ≡ get_or rel i d ∷ []
  stored-copied rel i d row days within all is are =
      ap₂ stored is are ∙ stored-some (get_or rel i d).0 (get_or rel i d).1 (All-get_or (λ p. HasDays p.1) rel i d within all).0

  -- those that pass a test: of the first and one more that does
  pub passing-in : (passes : R → Bool) (rel : List (R × List Range)) (i : ℕ) (d : R × List Range) → i < length rel → passes (get_or rel i d).0 ≡ true
      → passing passes (take (i + 1) rel) ≡ passing passes (take i rel) ++ get_or rel i d ∷ []
  passing-in passes rel i d within is = filter_more (λ p. passes p.0) rel i d within ∙ ap (λ b. passing passes (take i rel) ++ cond b (get_or rel i d ∷ []) []) is

  -- and one more that does not
  pub passing-not : (passes : R → Bool) (rel : List (R × List Range)) (i : ℕ) (d : R × List Range) → i < length rel → passes (get_or rel i d).0 ≡ false
      → passing passes (take (i + 1) rel) ≡ passing passes (take i rel)
  passing-not passes rel i d within is =
      filter_more (λ p. passes p.0) rel i d within ∙ ap (λ b. passing passes (take i rel) ++ cond b (get_or rel i d ∷ []) []) is ∙ append-nil (passing passes (take i rel))

-- what is made of the first elements is made of more of them, where each of these makes no difference
pub skipped : {X Y : Type 0} (f : List X → Y) (xs : List X) (from n : ℕ) → ((k : ℕ) → from ≤ k → k < n → f (take (k + 1) xs) ≡ f (take k xs)) → from ≤ n → f (take n xs) ≡ f (take from xs)
skipped f xs from zero same least = let is : 0 ≡ from = omega (arith, least) in ap (λ k. f (take k xs)) is
skipped f xs from (suc n) same least = elim (cases_lt n from) [
  | inl behind ↦ let is : suc n ≡ from = omega (arith, behind, least) in ap (λ k. f (take k xs)) is
  | inr before ↦
      let next : suc n ≡ n + 1 = omega arith in
      ap (λ k. f (take k xs)) next ∙ same n before (omega arith) ∙ skipped f xs from n (λ k a b. same k a (omega (arith, b))) before
]
