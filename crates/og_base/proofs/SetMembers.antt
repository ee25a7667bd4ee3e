-- Whether a test holds of some member of a rising set: as of some member of the list, also through append, map and filter.
use Rattle.std.proofs.Common.{◌≡◌, ◌++◌, ◌||◌, ◌&&◌, Bool, true, false, List, [], ◌∷◌, filter, map, if◌then◌else◌, Ordering, refl, sym, ap, ◌∙◌}
use Rattle.std.specs.List.{list_any}
use Rattle.std.proofs.lemmas.List.Folds.{list_any-append}
use Rattle.og_base.specs.Set.{IsExact, with_member, set_of}
use Rattle.og_base.proofs.SetLemmas.{by_order-is}

or_twice : (b c : Bool) → (b || c) ≡ (b || (b || c))
or_twice true c = refl
or_twice false c = refl

or_swap : (a b c : Bool) → (a || (b || c)) ≡ (b || (a || c))
or_swap true true c = refl
or_swap true false c = refl
or_swap false true c = refl
or_swap false false c = refl

-- of some image, where what it asks of the image holds of some member
pub list_any-map : {A B : Type 0} (p : B → Bool) (f : A → B) (xs : List A) → list_any p (map f xs) ≡ list_any (λ x. p (f x)) xs
list_any-map p f [] = refl
list_any-map p f (x ∷ xs) = ap (λ b. p (f x) || b) (list_any-map p f xs)

-- of some member that passes, where both hold of some member
pub list_any-filter : {A : Type 0} (p q : A → Bool) (xs : List A) → list_any p (filter q xs) ≡ list_any (λ x. q x && p x) xs
list_any-filter p q [] = refl
list_any-filter p q (x ∷ xs) = at (q x) (list_any-filter p q xs)
  where
    at : (b : Bool) → list_any p (filter q xs) ≡ list_any (λ x. q x && p x) xs
        → list_any p (if b then x ∷ filter q xs else filter q xs) ≡ ((b && p x) || list_any (λ x. q x && p x) xs)
    at true e = ap (λ c. p x || c) e
    at false e = e

module _ {F : Type 0} {cmp : F → F → Ordering} (exact : IsExact cmp) where
  -- of some member of a set with one more member
  pub list_any-with_member : (p : F → Bool) (x : F) (ys : List F) → list_any p (with_member cmp x ys) ≡ (p x || list_any p ys)
  list_any-with_member p x [] = refl
  list_any-with_member p x (y ∷ ys) =
      by_order-is (λ l. list_any p l ≡ (p x || (p y || list_any p ys))) (cmp x y) (x ∷ (y ∷ ys)) (y ∷ ys) (y ∷ with_member cmp x ys)
      (λ _. refl)
      (λ e. or_twice (p y) (list_any p ys) ∙ ap (λ z. p z || (p y || list_any p ys)) (sym (exact x y e)))
      (λ _. ap (λ b. p y || b) (list_any-with_member p x ys) ∙ or_swap (p y) (p x) (list_any p ys))

  -- of some member of the set, where it holds of some member of the list
  pub list_any-set_of : (p : F → Bool) (xs : List F) → list_any p (set_of cmp xs) ≡ list_any p xs
  list_any-set_of p [] = refl
  list_any-set_of p (x ∷ xs) = list_any-with_member p x (set_of cmp xs) ∙ ap (λ b. p x || b) (list_any-set_of p xs)

  -- of some member of the set of two lists
  pub list_any-set_of_append : (p : F → Bool) (xs ys : List F) → list_any p (set_of cmp (xs ++ ys)) ≡ (list_any p xs || list_any p ys)
  list_any-set_of_append p xs ys = list_any-set_of p (xs ++ ys) ∙ list_any-append p xs ys

  -- of some member of the set of the images
  pub list_any-set_of_map : {A : Type 0} (p : F → Bool) (f : A → F) (xs : List A) → list_any p (set_of cmp (map f xs)) ≡ list_any (λ x. p (f x)) xs
  list_any-set_of_map p f xs = list_any-set_of p (map f xs) ∙ list_any-map p f xs

  -- of some member of the set of what passes
  pub list_any-set_of_filter : (p q : F → Bool) (xs : List F) → list_any p (set_of cmp (filter q xs)) ≡ list_any (λ x. q x && p x) xs
  list_any-set_of_filter p q xs = list_any-set_of p (filter q xs) ∙ list_any-filter p q xs
