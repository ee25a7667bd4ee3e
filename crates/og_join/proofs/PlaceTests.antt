-- Tests of the members at places, and of the pairs of places that overlap.
use Rattle.std.proofs.Common.{◌≡◌, ◌+◌, ◌*◌, ◌<◌, ◌≤◌, ◌++◌, ◌&&◌, ◌||◌, ◌⊎◌, inl, inr, ℕ, ℤ, zero, suc, Bool, true, false, List, [], ◌∷◌, length, get_or, refl, sym, ap, ap₂, ◌∙◌, arith}
use Rattle.std.specs.List.{All, list_any}
use Rattle.std.proofs.lemmas.List.{length-append}
use Rattle.std.proofs.lemmas.List.Elements.{All-head, All-tail}
use Rattle.std.proofs.lemmas.List.Folds.{list_any-append}
use Rattle.og_join.specs.Overlaps.{overlap, row_overlaps, overlaps}
use Rattle.og_join.specs.Places.{is_at}
use Rattle.og_join.proofs.OverlapLemmas.{by_test}

-- tests that agree on every member are the same
pub same_test : {A : Type 0} (p q : A → Bool) → ((x : A) → p x ≡ q x) → p ≡ q
same_test p q h = λ i x. h x i

-- a test of no member of any list
none_of : {A : Type 0} (xs : List A) → list_any (λ _. false) xs ≡ false
none_of [] = refl
none_of (x ∷ xs) = none_of xs

-- a truth and a test of some member
pub list_any-and : {A : Type 0} (c : Bool) (p : A → Bool) (xs : List A) → (c && list_any p xs) ≡ list_any (λ x. c && p x) xs
list_any-and true p xs = refl
list_any-and false p xs = sym (none_of xs)

-- tests that agree on what is known of each member agree on the list
pub list_any-known : {A : Type 0} (Known : A → Type 0) (p q : A → Bool) → ((x : A) → Known x → p x ≡ q x) → (xs : List A) → All Known xs → list_any p xs ≡ list_any q xs
list_any-known Known p q same [] h = refl
list_any-known Known p q same (x ∷ xs) h =
    ap₂ (λ a b. a || b) (same x (All-head Known x xs h)) (list_any-known Known p q same xs (All-tail Known x xs h))

-- of some member of the list with one more
pub list_any-push : {A : Type 0} (p : A → Bool) (old new : List A) (x : A) (c : Bool) → new ≡ old ++ x ∷ [] → p x ≡ c → list_any p new ≡ (list_any p old || c)
list_any-push p old new x c e same =
    ap (list_any p) e ∙ list_any-append p old (x ∷ []) ∙ ap (λ b. list_any p old || b) (or_false (p x) ∙ same)
  where
    or_false : (b : Bool) → (b || false) ≡ b
    or_false true = refl
    or_false false = refl

module _ {A : Type 0} where
  -- the test at a place is that of the member there
  pub is_at-get : (p : A → Bool) (xs : List A) (i : ℕ) (x : A) → i < length xs → is_at p xs i ≡ p (get_or xs i x)
  is_at-get p [] i x h = absurd (omega (arith, h))
  is_at-get p (y ∷ ys) zero x h = refl
  is_at-get p (y ∷ ys) (suc i) x h = is_at-get p ys i x (omega (arith, h))

  -- past the end there is no member
  pub is_at-past : (p : A → Bool) (xs : List A) (i : ℕ) → length xs ≤ i → is_at p xs i ≡ false
  is_at-past p [] i h = refl
  is_at-past p (y ∷ ys) zero h = absurd (omega (arith, h))
  is_at-past p (y ∷ ys) (suc i) h = is_at-past p ys i (omega (arith, h))

  -- a test of no member
  pub is_at-none : (xs : List A) (i : ℕ) → is_at (λ _. false) xs i ≡ false
  is_at-none [] i = refl
  is_at-none (x ∷ xs) zero = refl
  is_at-none (x ∷ xs) (suc i) = is_at-none xs i

  -- a truth and a test at a place
  pub is_at-and : (c : Bool) (p : A → Bool) (xs : List A) (i : ℕ) → (c && is_at p xs i) ≡ is_at (λ x. c && p x) xs i
  is_at-and true p xs i = refl
  is_at-and false p xs i = sym (is_at-none xs i)

  -- a test at one place for some member of another list
  pub list_any-is_at : {B : Type 0} (f : B → A → Bool) (ys : List B) (xs : List A) (i : ℕ) → list_any (λ y. is_at (f y) xs i) ys ≡ is_at (λ x. list_any (λ y. f y x) ys) xs i
  list_any-is_at f ys [] i = none_of ys
  list_any-is_at f ys (x ∷ xs) zero = refl
  list_any-is_at f ys (x ∷ xs) (suc i) = list_any-is_at f ys xs i

module _ {A B : Type 0} (f : A → B → Bool) (xs : List A) (ys : List B) (m n : ℕ) where
  -- where a member is wanting at one of two places, no test holds
  pub at_both-past : (length xs ≤ m) ⊎ (length ys ≤ n) → is_at (λ x. is_at (f x) ys n) xs m ≡ false
  at_both-past (inl l) = is_at-past (λ x. is_at (f x) ys n) xs m l
  at_both-past (inr l) = ap (λ p. is_at p xs m) (same_test (λ x. is_at (f x) ys n) (λ _. false) (λ x. is_at-past (f x) ys n l)) ∙ is_at-none xs m

  -- the test at two places is that of the members there
  pub at_both-get : (x : A) (y : B) → m < length xs → n < length ys → x ≡ get_or xs m x → y ≡ get_or ys n y → is_at (λ z. is_at (f z) ys n) xs m ≡ f x y
  at_both-get x y left_place right_place left_is right_is =
      is_at-get (λ z. is_at (f z) ys n) xs m x left_place ∙ ap (λ z. is_at (f z) ys n) (sym left_is)
      ∙ is_at-get (f x) ys n y right_place ∙ ap (f x) (sym right_is)

module _ {E : Type 0} (lo hi : E → ℤ) (t : ℕ × ℕ → Bool) where
  -- a test of some pair in a row
  list_any-row : (f : E → Bool) (i j : ℕ) (l : E) (rs : List E) → ((k : ℕ) → t (i, j + k) ≡ is_at f rs k)
      → list_any t (row_overlaps lo hi i l j rs) ≡ list_any (λ r. overlap lo hi l r && f r) rs
  list_any-row f i j l [] h = refl
  list_any-row f i j l (r ∷ rs) h =
      let next : (k : ℕ) → t (i, (j + 1) + k) ≡ is_at f rs k = λ k. ap (λ n. t (i, n)) (omega arith) ∙ h (suc k) in
      let here : t (i, j) ≡ f r = ap (λ n. t (i, n)) (omega arith) ∙ h zero in
      let rest = list_any-row f i (j + 1) l rs next in
      by_test (overlap lo hi l r)
      (λ e. rw e (ap₂ (λ a b. a || b) here rest))
      (λ e. rw e rest)

  -- a test of some pair that overlaps
  pub list_any-overlaps : (f : E → E → Bool) (i j : ℕ) (ls rs : List E) → ((m k : ℕ) → t (i + m, j + k) ≡ is_at (λ l. is_at (f l) rs k) ls m)
      → list_any t (overlaps lo hi i j ls rs) ≡ list_any (λ l. list_any (λ r. overlap lo hi l r && f l r) rs) ls
  list_any-overlaps f i j [] rs h = refl
  list_any-overlaps f i j (l ∷ ls) rs h =
      let here : (k : ℕ) → t (i, j + k) ≡ is_at (f l) rs k = λ k. ap (λ n. t (n, j + k)) (omega arith) ∙ h zero k in
      let next : (m k : ℕ) → t ((i + 1) + m, j + k) ≡ is_at (λ x. is_at (f x) rs k) ls m = λ m k. ap (λ n. t (n, j + k)) (omega arith) ∙ h (suc m) k in
      list_any-append t (row_overlaps lo hi i l j rs) (overlaps lo hi (i + 1) j ls rs)
      ∙ ap₂ (λ a b. a || b) (list_any-row (f l) i j l rs here) (list_any-overlaps f (i + 1) j ls rs next)

-- the size with one row more
size_more : (a b n m : ℕ) → a ≤ n * m → b ≤ m → b + a ≤ suc n * m
size_more a b n m h k = grind (arith, h, k)

module _ {E : Type 0} (lo hi : E → ℤ) where
  -- a row has at most as many pairs as there are right spans
  length-row_overlaps : (i j : ℕ) (l : E) (rs : List E) → length (row_overlaps lo hi i l j rs) ≤ length rs
  length-row_overlaps i j l [] = omega arith
  length-row_overlaps i j l (r ∷ rs) =
      let rest = length-row_overlaps i (j + 1) l rs in
      by_test (overlap lo hi l r) (λ e. rw e (omega (arith, rest))) (λ e. rw e (omega (arith, rest)))

  -- at most the product of spans overlap
  pub length-overlaps : (i j : ℕ) (ls rs : List E) → length (overlaps lo hi i j ls rs) ≤ length ls * length rs
  length-overlaps i j [] rs = omega arith
  length-overlaps i j (l ∷ ls) rs =
      rw (length-append (row_overlaps lo hi i l j rs) (overlaps lo hi (i + 1) j ls rs))
      (size_more _ _ (length ls) (length rs) (length-overlaps (i + 1) j ls rs) (length-row_overlaps i j l rs))
