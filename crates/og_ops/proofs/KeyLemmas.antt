-- Lists in the order of keys: what has one key stands together, after what has a lower key and before what has a higher one.
use Rattle.std.proofs.Common.{◌≡◌, ◌++◌, ◌+◌, ◌<◌, ◌≤◌, ◌-◌, ℕ, Bool, true, false, not, List, [], ◌∷◌, length, get_or, filter, if◌then◌else◌, take, drop, Ordering, Less, Equal, Greater, refl, sym, ap, ap₂, ◌∙◌, subst, true≢false, arith}
use Rattle.std.specs.Cmp.{IsTotalOrder, IsStrictWeakOrder}
use Rattle.std.specs.List.{All, AllWithin}
use Rattle.std.specs.List.Sorted.{IsSortedBy, IsPartitionedBy, IsPartitionPoint}
use Rattle.std.specs.Ordering.{eq_by_cmp, is_eq, is_lt, is_le, ordering_reverse}
use Rattle.std.proofs.lemmas.List.{append-nil, take-append-drop, length-take-le, length-drop, get_or-take, get_or-drop, get_or_default}
use Rattle.std.proofs.lemmas.List.Elements.{All-head, All-tail, All-take, filter-append}
use Rattle.std.proofs.lemmas.List.Sorted.{ranks_by, sorted_far}

module _ {X : Type 0} (p : X → Bool) where
  -- of a list of which nothing passes, nothing is kept
  filter_none : (xs : List X) → All (λ x. p x ≡ false) xs → filter p xs ≡ []
  filter_none [] h = refl
  filter_none (x ∷ xs) h =
      ap (λ b. if b then x ∷ filter p xs else filter p xs) (All-head (λ y. p y ≡ false) x xs h) ∙ filter_none xs (All-tail (λ y. p y ≡ false) x xs h)

  -- of a list of which each passes, all is kept
  filter_every : (xs : List X) → All (λ x. p x ≡ true) xs → filter p xs ≡ xs
  filter_every [] h = refl
  filter_every (x ∷ xs) h =
      ap (λ b. if b then x ∷ filter p xs else filter p xs) (All-head (λ y. p y ≡ true) x xs h) ∙ ap (λ ys. x ∷ ys) (filter_every xs (All-tail (λ y. p y ≡ true) x xs h))

module _ {X : Type 0} (P : X → Type 0) where
  -- what holds below a place holds of the list up to it
  all_take : (xs : List X) (n : ℕ) → n ≤ length xs → AllWithin P xs 0 n → All P (take n xs)
  all_take xs n l h k d below =
      let inside : k < n = subst (λ m. k < m) (length-take-le n xs l) below in
      subst P (sym (get_or-take n xs k d inside)) (h k d (omega arith) inside)

  -- what holds from a place on holds of the list after it
  all_drop : (xs : List X) (n : ℕ) → AllWithin P xs n (length xs) → All P (drop n xs)
  all_drop xs n h k d below =
      let inside : k < length xs - n = subst (λ m. k < m) (length-drop n xs) below in
      subst P (sym (get_or-drop n xs k d)) (h (n + k) d (omega arith) (omega (arith, inside)))

module _ {X : Type 0} (p low most : X → Bool) (no_low : (x : X) → low x ≡ true → p x ≡ false) (no_high : (x : X) → most x ≡ false → p x ≡ false)
    (between : (x : X) → low x ≡ false → most x ≡ true → p x ≡ true) where
  -- what is not low, and of the rest what is at most so high, is what passes
  filter_between : (xs rest : List X) (m n : ℕ) → rest ≡ drop m xs → m ≤ length xs → n ≤ length rest
      → IsPartitionPoint (λ x. low x ≡ true) (λ x. low x ≡ false) xs m → IsPartitionPoint (λ x. most x ≡ true) (λ x. most x ≡ false) rest n
      → take n rest ≡ filter p xs
  filter_between xs rest m n is l k first second =
      let lows = all_take (λ x. low x ≡ true) xs m l first.0 in
      let later = subst (All (λ x. low x ≡ false)) (sym is) (all_drop (λ x. low x ≡ false) xs m first.1) in
      let mosts = all_take (λ x. most x ≡ true) rest n k second.0 in
      let highs = all_drop (λ x. most x ≡ false) rest n second.1 in
      let kept = All-take (λ x. low x ≡ false) n rest later in
      sym (ap (filter p) (sym (take-append-drop m xs) ∙ ap (λ ys. take m xs ++ ys) (sym is))
      ∙ filter-append p (take m xs) rest
      ∙ ap (λ ys. ys ++ filter p rest) (filter_none p (take m xs) (λ i d b. no_low _ (lows i d b)))
      ∙ ap (filter p) (sym (take-append-drop n rest))
      ∙ filter-append p (take n rest) (drop n rest)
      ∙ ap₂ (λ ys zs. ys ++ zs) (filter_every p (take n rest) (λ i d b. between _ (kept i d b) (mosts i d b))) (filter_none p (drop n rest) (λ i d b. no_high _ (highs i d b)))
      ∙ append-nil (take n rest))

-- what is below does not tie
no_tie_below : (o : Ordering) → is_lt o ≡ true → is_eq o ≡ false
no_tie_below Less e = refl
no_tie_below Equal e = absurd (true≢false (sym e))
no_tie_below Greater e = refl

-- what is not at most so high does not tie
no_tie_above : (o : Ordering) → is_le o ≡ false → is_eq o ≡ false
no_tie_above Less e = absurd (true≢false e)
no_tie_above Equal e = absurd (true≢false e)
no_tie_above Greater e = refl

-- what is not below and at most so high ties
tie_between : (o : Ordering) → is_lt o ≡ false → is_le o ≡ true → is_eq o ≡ true
tie_between Less e k = absurd (true≢false e)
tie_between Equal e k = refl
tie_between Greater e k = absurd (true≢false (sym k))

-- at most so high is where the other is not below
not_below : (o : Ordering) → is_le o ≡ not (is_lt (ordering_reverse o))
not_below Less = refl
not_below Equal = refl
not_below Greater = refl

-- a test that is true where it is not false
true_unless : (b : Bool) → (b ≡ false → ⊥) → b ≡ true
true_unless true h = refl
true_unless false h = absurd (h refl)

module _ {K : Type 0} {cmp : K → K → Ordering} (total : IsTotalOrder cmp) {X : Type 0} (key : X → K) (k : K) where
  -- whether a key is lower
  abbrev below : X → Bool
  below x = is_lt (cmp (key x) k)

  -- whether a key is at most so high
  abbrev within : X → Bool
  within x = is_le (cmp (key x) k)

  -- keys are in a weak order
  weak : IsStrictWeakOrder (λ a b. is_lt (cmp a b))
  weak = ranks_by total (λ a. a)

  -- a key is at most so high where the other is not lower
  within_is : (x : X) → within x ≡ not (is_lt (cmp k (key x)))
  within_is x = not_below (cmp (key x) k) ∙ ap (λ o. not (is_lt o)) (sym (total.antisymm k (key x)))

  -- in a list in the order of keys, what has a lower key comes first
  pub partitioned_below : (xs : List X) → IsSortedBy (λ a b. is_lt (cmp (key a) (key b))) xs → IsPartitionedBy below xs
  partitioned_below xs up i j d le l e =
      true_unless _ (λ f. true≢false (sym e ∙ weak.chain _ _ _ (sorted_far _ (ranks_by total key) xs up i j d le l) f))

  -- and what has a key at most so high comes before what has a higher one
  partitioned_within : (xs : List X) → IsSortedBy (λ a b. is_lt (cmp (key a) (key b))) xs → IsPartitionedBy within xs
  partitioned_within xs up i j d le l e =
      within_is _ ∙ ap not (weak.chain _ _ _ (not_true _ (sym (within_is _) ∙ e)) (sorted_far _ (ranks_by total key) xs up i j d le l))
    where
      not_true : (b : Bool) → not b ≡ true → b ≡ false
      not_true true e = sym e
      not_true false e = refl

  -- the part of a list in the order of keys after some place is in that order
  sorted_rest : (xs : List X) (m : ℕ) → IsSortedBy (λ a b. is_lt (cmp (key a) (key b))) xs → IsSortedBy (λ a b. is_lt (cmp (key a) (key b))) (drop m xs)
  sorted_rest xs m up i d z l =
      let next : m + i + 1 ≡ m + (i + 1) = omega arith in
      subst (λ b. is_lt (cmp (key b) (key (get_or (drop m xs) i d))) ≡ false) (sym (get_or-drop m xs (i + 1) d))
      (subst (λ a. is_lt (cmp (key (get_or xs (m + (i + 1)) d)) (key a)) ≡ false) (sym (get_or-drop m xs i d))
      (subst (λ n. is_lt (cmp (key (get_or xs n d)) (key (get_or xs (m + i) d))) ≡ false) next (up (m + i) d (omega arith) (omega (arith, subst (λ n. i + 1 < n) (length-drop m xs) l)))))

  -- so in it, what has a key at most so high comes first
  pub partitioned_rest : (xs rest : List X) (m : ℕ) → rest ≡ drop m xs → IsSortedBy (λ a b. is_lt (cmp (key a) (key b))) xs → IsPartitionedBy within rest
  partitioned_rest xs rest m is up = subst (IsPartitionedBy within) (sym is) (partitioned_within (drop m xs) (sorted_rest xs m up))

  -- what is found by two partition points is what has the key
  pub with_key_between : (xs rest : List X) (m n : ℕ) → rest ≡ drop m xs → m ≤ length xs → n ≤ length rest
      → IsPartitionPoint (λ x. below x ≡ true) (λ x. below x ≡ false) xs m → IsPartitionPoint (λ x. within x ≡ true) (λ x. within x ≡ false) rest n
      → take n rest ≡ filter (λ x. eq_by_cmp cmp (key x) k) xs
  with_key_between =
      filter_between (λ x. eq_by_cmp cmp (key x) k) below within
      (λ x. no_tie_below (cmp (key x) k)) (λ x. no_tie_above (cmp (key x) k)) (λ x. tie_between (cmp (key x) k))

module _ {X : Type 0} (p : X → Bool) (xs : List X) (parted : IsPartitionedBy p xs) where
  -- where those that pass come first, each passes up to the first that fails, and none from it on
  pub first_that_fails : (i : ℕ) (x : X) → i < length xs → AllWithin (λ y. p y ≡ true) xs 0 i → x ≡ get_or xs i x → p x ≡ false → IsPartitionPoint (λ y. p y ≡ true) (λ y. p y ≡ false) xs i
  first_that_fails i x l before at fails = (before, λ k d from below. fails_after k d from below (p (get_or xs k d)) refl)
    where
      fails_after : (k : ℕ) (d : X) → i ≤ k → k < length xs → (b : Bool) → p (get_or xs k d) ≡ b → b ≡ false
      fails_after k d from below true e = absurd (true≢false (sym (parted i k d from below e) ∙ ap p (get_or_default xs i d x l ∙ sym at) ∙ fails))
      fails_after k d from below false e = refl
