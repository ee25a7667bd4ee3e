-- How often the pair of two places stands among the pairs that overlap.
use Rattle.std.proofs.Common.{◌≡◌, ◌+◌, ◌<◌, ◌++◌, ℕ, ℤ, zero, suc, Bool, true, false, List, [], ◌∷◌, nat_eq, count_by, filter, length, if◌then◌else◌, refl, sym, ap, ◌∙◌, arith}
use Rattle.std.proofs.Math.Bool.{and-false}
use Rattle.std.proofs.lemmas.List.Sums.{length-filter}
use Rattle.og_join.specs.Overlaps.{overlap, row_overlaps, overlaps}
use Rattle.og_join.specs.Places.{is_at, overlap_at, is_pair}
use Rattle.og_join.proofs.OverlapLemmas.{add_one, by_test}

-- a member of which the test does not hold is not counted
count_by-no : {X : Type 0} (p : X → Bool) (x : X) (xs : List X) → p x ≡ false → count_by p (x ∷ xs) ≡ count_by p xs
count_by-no p x xs e = grind (arith, e)

-- a member of which the test holds is counted once
count_by-yes : {X : Type 0} (p : X → Bool) (x : X) (xs : List X) → p x ≡ true → count_by p (x ∷ xs) ≡ count_by p xs + 1
count_by-yes p x xs e =
    let kept : length (filter p (x ∷ xs)) ≡ length (filter p xs) + 1 = rw e (sym (add_one (length (filter p xs)))) in
    omega (arith, kept, length-filter p (x ∷ xs), length-filter p xs)

-- what is counted in two lists one after the other
count_by-both : {X : Type 0} (p : X → Bool) (xs ys : List X) → count_by p (xs ++ ys) ≡ count_by p xs + count_by p ys
count_by-both p [] ys = omega arith
count_by-both p (x ∷ xs) ys =
    let rest = count_by-both p xs ys in
    by_test (p x)
    (λ e. omega (arith, rest, count_by-yes p x xs e, count_by-yes p x (xs ++ ys) e))
    (λ e. omega (arith, rest, count_by-no p x xs e, count_by-no p x (xs ++ ys) e))

-- none more
plus_none : (n : ℕ) → n + 0 ≡ n
plus_none n = omega arith

-- more than none
none_plus : (n : ℕ) → 0 + n ≡ n
none_plus n = omega arith

-- two numbers are not the same
not_same : (a b : ℕ) → (a ≡ b → ⊥) → nat_eq a b ≡ false
not_same a b h = grind (arith, h)

-- a number is the same as its equal
same : (a b : ℕ) → a ≡ b → nat_eq a b ≡ true
same a b h = grind (arith, h)

module _ {E : Type 0} (lo hi : E → ℤ) (a b : ℕ) where
  -- another pair at the head of a row is not counted
  row-skip : (i j : ℕ) (l r : E) (rs : List E) → is_pair a b (i, j) ≡ false
      → count_by (is_pair a b) (row_overlaps lo hi i l j (r ∷ rs)) ≡ count_by (is_pair a b) (row_overlaps lo hi i l (j + 1) rs)
  row-skip i j l r rs e = by_test (overlap lo hi l r) (λ f. rw f (count_by-no (is_pair a b) (i, j) (row_overlaps lo hi i l (j + 1) rs) e)) (λ f. rw f refl)

  -- a row from a later place on has no such pair
  row-past : (i j : ℕ) (l : E) (rs : List E) → b < j → count_by (is_pair a b) (row_overlaps lo hi i l j rs) ≡ 0
  row-past i j l [] h = refl
  row-past i j l (r ∷ rs) h =
      let other : nat_eq j b ≡ false = not_same j b (λ e. omega (arith, e, h)) in
      row-skip i j l r rs (rw other (and-false (nat_eq i a))) ∙ row-past i (j + 1) l rs (omega (arith, h))

  -- the row of another left span has no such pair
  row-other : (i j : ℕ) (l : E) (rs : List E) → nat_eq i a ≡ false → count_by (is_pair a b) (row_overlaps lo hi i l j rs) ≡ 0
  row-other i j l [] e = refl
  row-other i j l (r ∷ rs) e = row-skip i j l r rs (rw e refl) ∙ row-other i (j + 1) l rs e

  -- the row of the left span has the pair once, where they overlap
  row-at : (i j : ℕ) (l : E) (rs : List E) (n : ℕ) → i ≡ a → j + n ≡ b
      → count_by (is_pair a b) (row_overlaps lo hi i l j rs) ≡ (if is_at (λ r. overlap lo hi l r) rs n then 1 else 0)
  row-at i j l [] n ia jb = refl
  row-at i j l (r ∷ rs) zero ia jb =
      let it : is_pair a b (i, j) ≡ true = rw (same i a ia, same j b (omega (arith, jb))) refl in
      let none = row-past i (j + 1) l rs (omega (arith, jb)) in
      by_test (overlap lo hi l r)
      (λ f. rw f (count_by-yes (is_pair a b) (i, j) (row_overlaps lo hi i l (j + 1) rs) it ∙ ap (λ n. n + 1) none))
      (λ f. rw f none)
  row-at i j l (r ∷ rs) (suc n) ia jb =
      let other : nat_eq j b ≡ false = not_same j b (λ e. omega (arith, e, jb)) in
      row-skip i j l r rs (rw other (and-false (nat_eq i a))) ∙ row-at i (j + 1) l rs n ia (omega (arith, jb))

  -- pairs from a later left place on have no such pair
  all-past : (i j : ℕ) (ls rs : List E) → a < i → count_by (is_pair a b) (overlaps lo hi i j ls rs) ≡ 0
  all-past i j [] rs h = refl
  all-past i j (l ∷ ls) rs h =
      let first = row-other i j l rs (not_same i a (λ e. omega (arith, e, h))) in
      let rest = all-past (i + 1) j ls rs (omega (arith, h)) in
      omega (arith, first, rest, count_by-both (is_pair a b) (row_overlaps lo hi i l j rs) (overlaps lo hi (i + 1) j ls rs))

  -- all pairs have the pair once, where there are spans at both places and they overlap
  pub all-at : (i j : ℕ) (ls rs : List E) (m n : ℕ) → i + m ≡ a → j + n ≡ b
      → count_by (is_pair a b) (overlaps lo hi i j ls rs) ≡ (if overlap_at lo hi ls rs m n then 1 else 0)
  all-at i j [] rs m n ia jb = refl
  all-at i j (l ∷ ls) rs zero n ia jb =
      let first = row-at i j l rs n (omega (arith, ia)) jb in
      let rest = all-past (i + 1) j ls rs (omega (arith, ia)) in
      count_by-both (is_pair a b) (row_overlaps lo hi i l j rs) (overlaps lo hi (i + 1) j ls rs) ∙ rw (first, rest) (plus_none _)
  all-at i j (l ∷ ls) rs (suc m) n ia jb =
      let first = row-other i j l rs (not_same i a (λ e. omega (arith, e, ia))) in
      let rest = all-at (i + 1) j ls rs m n (omega (arith, ia)) jb in
      count_by-both (is_pair a b) (row_overlaps lo hi i l j rs) (overlaps lo hi (i + 1) j ls rs) ∙ rw (first, rest) (none_plus _)
