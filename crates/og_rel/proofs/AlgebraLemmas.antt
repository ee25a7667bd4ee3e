-- The algebra of sets: members, that each answer rises, sizes, and tests of some member.
use Rattle.std.proofs.Common.{◌≡◌, ◌⊎◌, ◌↔◌, ◌++◌, ◌≤◌, ◌&&◌, ◌||◌, suc, Bool, true, false, not, List, [], ◌∷◌, length, filter, Contains, Ordering, if◌then◌else◌, refl, sym, ap, ◌∙◌, ⊎_elim, true≢false, arith}
use Rattle.std.specs.List.{flat_map, list_any}
use Rattle.std.specs.List.Sorted.{IsStrictlySortedBy}
use Rattle.std.specs.Ordering.{eq_by_cmp}
use Rattle.std.proofs.lemmas.Cmp.{eq_by_cmp_equiv}
use Rattle.std.proofs.lemmas.List.Elements.{Contains-append_left, Contains-append_right, Contains-append_cases}
use Rattle.std.proofs.lemmas.List.Folds.{list_any-append}
use Rattle.std.proofs.lemmas.List.Kept.{IsStrictlySortedBy-filter}
use Rattle.std.proofs.lemmas.Map.Views.{list_any-from_Contains, Contains-from_any}
use Rattle.og_base.specs.Set.{IsExactOrder, with_member, set_of}
use Rattle.og_base.proofs.SetLemmas.{by_order-is, eq_by_cmp-exact, Contains-filter, Contains-from_filter, filter_passes-member, Contains-set_of, Contains-from_set_of, IsStrictlySortedBy-set_of, same_set}
use Rattle.og_rel.specs.Algebra.{is_in, union, except, intersect}

-- what is not false is true
not_not : (b : Bool) → (b ≡ true → ⊥) → not b ≡ true
not_not true h = absurd (h refl)
not_not false h = refl

-- and what is negated and true is not true
not_true : (b : Bool) → not b ≡ true → b ≡ true → ⊥
not_true true e t = true≢false (sym e)
not_true false e t = true≢false (sym t)

module _ {F : Type 0} {cmp : F → F → Ordering} (o : IsExactOrder cmp) where
  -- what is found in a list is a member of it
  found : (x : F) (ys : List F) → is_in cmp x ys ≡ true → Contains ys x
  found x ys = Contains-from_any (eq_by_cmp-exact o.exact) x ys

  -- a member of a list is found in it
  finds : (x : F) (ys : List F) → Contains ys x → is_in cmp x ys ≡ true
  finds x ys = list_any-from_Contains (eq_by_cmp_equiv o.total) x ys

  -- UNION has the members of both
  pub Contains-union : (xs ys : List F) (z : F) → Contains (union cmp xs ys) z ↔ (Contains xs z ⊎ Contains ys z)
  Contains-union xs ys z = (
    λ c. Contains-append_cases xs ys z (Contains-from_set_of cmp (xs ++ ys) z c),
    λ h. Contains-set_of o.exact (xs ++ ys) z (⊎_elim (Contains-append_left xs ys z) (Contains-append_right xs ys z) h),
  )

  -- EXCEPT has those of the left that the right lacks
  pub Contains-except : (xs ys : List F) (z : F) → Contains (except cmp xs ys) z ↔ (Contains xs z × (¬ Contains ys z))
  Contains-except xs ys z = (
    λ c. (
      Contains-from_filter (λ x. not (is_in cmp x ys)) xs z c,
      λ d. not_true (is_in cmp z ys) (filter_passes-member (λ x. not (is_in cmp x ys)) xs z c) (finds z ys d),
    ),
    λ h. Contains-filter (λ x. not (is_in cmp x ys)) xs z (not_not (is_in cmp z ys) (λ t. h.1 (found z ys t))) h.0,
  )

  -- INTERSECT has the members that both have
  pub Contains-intersect : (xs ys : List F) (z : F) → Contains (intersect cmp xs ys) z ↔ (Contains xs z × Contains ys z)
  Contains-intersect xs ys z = (
    λ c. (
      Contains-from_filter (λ x. is_in cmp x ys) xs z c,
      found z ys (filter_passes-member (λ x. is_in cmp x ys) xs z c),
    ),
    λ h. Contains-filter (λ x. is_in cmp x ys) xs z (finds z ys h.1) h.0,
  )

  -- a test that tells nothing of two lists apart tells nothing of their sets
  pub same_set_by_tests : (xs ys : List F) → ((p : F → Bool) → list_any p xs ≡ list_any p ys) → set_of cmp xs ≡ set_of cmp ys
  same_set_by_tests xs ys same =
      same_set o xs ys
      (λ z c. found z ys (sym (same (eq_by_cmp cmp z)) ∙ finds z xs c))
      (λ z c. found z xs (same (eq_by_cmp cmp z) ∙ finds z ys c))

  -- UNION rises
  pub union_rises : (xs ys : List F) → IsStrictlySortedBy cmp (union cmp xs ys)
  union_rises xs ys = IsStrictlySortedBy-set_of o.total (xs ++ ys)

module _ {F : Type 0} (cmp : F → F → Ordering) where
  -- EXCEPT rises where the left does
  pub except_rises : (xs ys : List F) → IsStrictlySortedBy cmp xs → IsStrictlySortedBy cmp (except cmp xs ys)
  except_rises xs ys = IsStrictlySortedBy-filter cmp (λ x. not (is_in cmp x ys)) xs

  -- INTERSECT rises where the left does
  pub intersect_rises : (xs ys : List F) → IsStrictlySortedBy cmp xs → IsStrictlySortedBy cmp (intersect cmp xs ys)
  intersect_rises xs ys = IsStrictlySortedBy-filter cmp (λ x. is_in cmp x ys) xs

  -- a rising list with one more member has at most one more
  length-with_member : (x : F) (ys : List F) → length (with_member cmp x ys) ≤ suc (length ys)
  length-with_member x [] = omega arith
  length-with_member x (y ∷ ys) =
      by_order-is (λ l. length l ≤ suc (suc (length ys))) (cmp x y) (x ∷ y ∷ ys) (y ∷ ys) (y ∷ with_member cmp x ys)
      (λ _. omega arith) (λ _. omega arith) (λ _. omega (arith, length-with_member x ys))

  -- a set has at most as many members as its list
  pub length-set_of : (xs : List F) → length (set_of cmp xs) ≤ length xs
  length-set_of [] = omega arith
  length-set_of (x ∷ xs) = omega (arith, length-with_member x (set_of cmp xs), length-set_of xs)

-- what passes is at most as much as the list
pub length-filter_le : {A : Type 0} (p : A → Bool) (xs : List A) → length (filter p xs) ≤ length xs
length-filter_le p [] = omega arith
length-filter_le p (x ∷ xs) = at (p x) (length-filter_le p xs)
  where
    at : (b : Bool) → length (filter p xs) ≤ length xs → length (if b then x ∷ filter p xs else filter p xs) ≤ suc (length xs)
    at true h = omega (arith, h)
    at false h = omega (arith, h)

-- or with a truth that is false
pub or_false : (b : Bool) → (b || false) ≡ b
or_false true = refl
or_false false = refl

-- or goes in any order
pub or_across : (a b c d : Bool) → ((a || b) || (c || d)) ≡ ((a || c) || (b || d))
or_across true b c d = refl
or_across false true true d = refl
or_across false true false d = refl
or_across false false c d = refl

-- a test of no member of any list
pub any_of_none : {A : Type 0} (ys : List A) → list_any (λ _. false) ys ≡ false
any_of_none [] = refl
any_of_none (y ∷ ys) = any_of_none ys

-- a test or another, of some member
pub any_of_either : {A : Type 0} (p q : A → Bool) (xs : List A) → list_any (λ x. p x || q x) xs ≡ (list_any p xs || list_any q xs)
any_of_either p q [] = refl
any_of_either p q (x ∷ xs) = ap (λ b. (p x || q x) || b) (any_of_either p q xs) ∙ or_across (p x) (q x) (list_any p xs) (list_any q xs)

-- of some member of the one list with some member of the other, in either order
pub any_across : {A B : Type 0} (p : A → B → Bool) (xs : List A) (ys : List B) → list_any (λ x. list_any (p x) ys) xs ≡ list_any (λ y. list_any (λ x. p x y) xs) ys
any_across p [] ys = sym (any_of_none ys)
any_across p (x ∷ xs) ys = ap (λ b. list_any (p x) ys || b) (any_across p xs ys) ∙ sym (any_of_either (p x) (λ y. list_any (λ z. p z y) xs) ys)

-- of some member of the lists of the members
pub list_any-flat_map : {A B : Type 0} (p : B → Bool) (h : A → List B) (xs : List A) → list_any p (flat_map h xs) ≡ list_any (λ x. list_any p (h x)) xs
list_any-flat_map p h [] = refl
list_any-flat_map p h (x ∷ xs) = list_any-append p (h x) (flat_map h xs) ∙ ap (λ b. list_any p (h x) || b) (list_any-flat_map p h xs)

-- what passes the one and then the other is what passes both
pub filter-both : {A : Type 0} (p q r : A → Bool) → ((x : A) → p x ≡ (q x && r x)) → (xs : List A) → filter p xs ≡ filter r (filter q xs)
filter-both p q r both [] = refl
filter-both p q r both (x ∷ xs) = ap (λ b. if b then x ∷ filter p xs else filter p xs) (both x) ∙ at (q x) (filter-both p q r both xs)
  where
    at : (b : Bool) → filter p xs ≡ filter r (filter q xs) → (if b && r x then x ∷ filter p xs else filter p xs) ≡ filter r (if b then x ∷ filter q xs else filter q xs)
    at true e = ap (λ rest. if r x then x ∷ rest else rest) e
    at false e = e
