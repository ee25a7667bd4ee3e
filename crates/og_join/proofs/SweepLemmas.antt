-- Steps of the walk over two rising lists: what was found and what is left make up the same pairs.
use Rattle.std.proofs.Common.{◌≡◌, ◌+◌, ◌*◌, ◌<◌, ◌≤◌, ◌++◌, ◌⊎◌, ◌<ℤ◌, ◌≤ℤ◌, ℕ, ℤ, false, IsTrue, ◌↔◌, Result, Ok, Err, OnErr, inl, inr, List, [], ◌∷◌, ◌-◌, take, length, get_or, drop, refl, sym, ap, ◌∙◌, subst, IsPermutation, arith}
use Rattle.std.proofs.lemmas.Int.{ints}
use Rattle.std.proofs.lemmas.List.{append-nil, append_assoc, drop_all, drop_more, length-append, length-drop, take_all}
use Rattle.std.proofs.lemmas.List.Sorted.{IsPermutation-refl, IsPermutation-sym, IsPermutation-append_right, length_permutation}
use Rattle.og_join.specs.Overlaps.{Rises, overlaps}
use Rattle.og_join.specs.Sweep.{reach_of, row_places, column_places, column_overlaps}
use Rattle.og_join.proofs.OverlapLemmas.{NoneBelow-rising, Rises-drop, overlaps-column, row_overlaps-reach, column_overlaps-reach}

-- what lies from a place on begins with what stands there
from_place : {X : Type 0} (xs : List X) (i : ℕ) (x : X) → i < length xs → x ≡ get_or xs i x → drop i xs ≡ x ∷ drop (i + 1) xs
from_place xs i x l e = drop_more xs i x l ∙ ap (λ y. y ∷ drop (i + 1) xs) (sym e)

-- more places behind those that were found, and what is left behind both
behind : {X : Type 0} (old new more rest all : List X) → new ≡ old ++ more → IsPermutation (more ++ rest) all → IsPermutation (new ++ rest) (old ++ all)
behind old new more rest all e h = rw (e, append_assoc old more rest) (IsPermutation-append_right old (more ++ rest) all h)

-- a test that fails says that the second day is no later
pub no_later : (x y : ℤ) → (IsTrue false ↔ (x ≤ℤ y)) → y ≤ℤ x
no_later x y h = grind (arith, ints, h)

-- the pairs found grow by so many, and the steps by no more than two above that
pub found_cost : {X : Type 0} (old new more : List X) (n before between after : ℕ) → new ≡ old ++ more → length more ≡ n → between ≡ before + 1 → after ≤ between + n + 1 → after + length old ≤ before + 2 + length new
found_cost old new more n before between after e m b h = rw (e, length-append old more) (omega (arith, m, b, h))

-- what holds anyway holds where there is an error
pub on_err_always : {T E P : Type 0} (r : Result T E) → P → OnErr r P
on_err_always (Ok x) h = tt
on_err_always (Err e) h = h

-- the steps of what begins first are not more than the pairs that are left, and two
pub refused_cost : {X : Type 0} (places rest all : List X) (n before between after : ℕ) → IsPermutation (places ++ rest) all → length places ≡ n → between ≡ before + 1 → after ≤ between + n + 1 → after ≤ before + 2 + length all
refused_cost places rest all n before between after same m b h = omega (arith, length_permutation (places ++ rest) all same, length-append places rest, m, b, h)

-- the steps of a walk that ends here, and what was found is some of all
pub whole_cost : {X : Type 0} (found rest all : List X) (i j n m before now : ℕ) → IsPermutation (found ++ rest) all → i ≤ n → j ≤ m → now ≤ before + 2 * (i + j) + length found → now ≤ before + 2 * (n + m) + length all
whole_cost found rest all i j n m before now same p q h = omega (arith, length_permutation (found ++ rest) all same, length-append found rest, p, q, h)

-- the steps of a walk that is refused in the middle
pub stopped_cost : {X : Type 0} (found rest all : List X) (i j n m before between now : ℕ) → IsPermutation (found ++ rest) all → i < n → j < m → between ≤ before + 2 * (i + j) + length found → now ≤ between + 2 + length rest → now ≤ before + 2 * (n + m) + length all
stopped_cost found rest all i j n m before between now same p q h k = omega (arith, length_permutation (found ++ rest) all same, length-append found rest, p, q, h, k)

module _ {E : Type 0} (lo hi : E → ℤ) (spans : (e : E) → lo e <ℤ hi e) (ls rs : List E) (left_rises : Rises lo ls) (right_rises : Rises lo rs) (i j : ℕ) (l r : E) (left_place : i < length ls) (right_place : j < length rs) (left_is : l ≡ get_or ls i l) (right_is : r ≡ get_or rs j r) where
  -- the left spans from a place on rise
  lefts : Rises lo (l ∷ drop (i + 1) ls)
  lefts = subst (Rises lo) (from_place ls i l left_place left_is) (Rises-drop lo hi ls i left_rises)

  -- the right spans from a place on rise
  rights : Rises lo (r ∷ drop (j + 1) rs)
  rights = subst (Rises lo) (from_place rs j r right_place right_is) (Rises-drop lo hi rs j right_rises)

  -- the left span begins first: its pairs, and those of the left spans behind it
  pub left_first : (old new : List (ℕ × ℕ)) (n : ℕ) → lo l ≤ℤ lo r → n ≡ reach_of lo (hi l) (drop j rs) → new ≡ old ++ row_places i j n
      → IsPermutation (new ++ overlaps lo hi (i + 1) j (drop (i + 1) ls) (drop j rs)) (old ++ overlaps lo hi i j (drop i ls) (drop j rs))
  left_first old new n first reached e =
      let here = from_place ls i l left_place left_is in
      let there = from_place rs j r right_place right_is in
      behind old new (row_places i j n) _ _ e
      (rw (here, there, reached, there) (rw (row_overlaps-reach lo hi spans i j l (r ∷ drop (j + 1) rs) (NoneBelow-rising lo hi (lo l) r (drop (j + 1) rs) first rights) rights) (IsPermutation-refl _)))

  -- the right span begins first: its pairs, and those of the right spans behind it
  pub right_first : (old new : List (ℕ × ℕ)) (n : ℕ) → lo r ≤ℤ lo l → n ≡ reach_of lo (hi r) (drop i ls) → new ≡ old ++ column_places i j n
      → IsPermutation (new ++ overlaps lo hi i (j + 1) (drop i ls) (drop (j + 1) rs)) (old ++ overlaps lo hi i j (drop i ls) (drop j rs))
  right_first old new n first reached e =
      let here = from_place ls i l left_place left_is in
      let there = from_place rs j r right_place right_is in
      let column : column_overlaps lo hi i (drop i ls) j r ≡ column_places i j n =
      rw (reached, here) (column_overlaps-reach lo hi spans i j r (l ∷ drop (i + 1) ls) (NoneBelow-rising lo hi (lo r) l (drop (i + 1) ls) first lefts) lefts) in
      behind old new (column_places i j n) _ _ e
      (IsPermutation-sym _ _ (rw there (subst (λ places. IsPermutation (overlaps lo hi i j (drop i ls) (r ∷ drop (j + 1) rs)) (places ++ overlaps lo hi i (j + 1) (drop i ls) (drop (j + 1) rs))) column
      (overlaps-column lo hi i j (drop i ls) r (drop (j + 1) rs)))))

module _ {E : Type 0} (lo hi : E → ℤ) where
  -- a slice up to the end is the whole rest
  pub reach_of-tail : (day : ℤ) (xs : List E) (i n : ℕ) → n ≡ reach_of lo day (take (length xs - i) (drop i xs)) → n ≡ reach_of lo day (drop i xs)
  reach_of-tail day xs i n e = e ∙ ap (reach_of lo day) (take_all (length xs - i) (drop i xs) (omega (arith, length-drop i xs)))

  -- no left span overlaps one of none
  overlaps-no_right : (i j : ℕ) (ls : List E) → overlaps lo hi i j ls [] ≡ []
  overlaps-no_right i j [] = refl
  overlaps-no_right i j (l ∷ ls) = overlaps-no_right (i + 1) j ls

  -- no right span is left, or no left one: there are no more pairs
  pub overlaps-done : (i j : ℕ) (ls rs : List E) → (length ls ≤ i) ⊎ (length rs ≤ j) → overlaps lo hi i j (drop i ls) (drop j rs) ≡ []
  overlaps-done i j ls rs (inl l) = rw (drop_all i ls l) refl
  overlaps-done i j ls rs (inr l) = rw (drop_all j rs l) (overlaps-no_right i j (drop i ls))

-- where nothing is left, what was found is all
pub all_found : {X : Type 0} (found rest all : List X) → rest ≡ [] → IsPermutation (found ++ rest) all → IsPermutation found all
all_found found rest all e h = subst (λ xs. IsPermutation xs all) (ap (λ xs. found ++ xs) e ∙ append-nil found) h
