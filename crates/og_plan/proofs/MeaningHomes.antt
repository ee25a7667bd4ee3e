-- The home of a part says among which columns its places are.
use Rattle.std.proofs.Common.{◌≡◌, ◌++◌, ◌+◌, ◌-◌, ◌<◌, ◌≤◌, ◌==◌, ◌&&◌, ℕ, zero, suc, nat_lt, max, Bool, true, false, List, [], ◌∷◌, length, map, fold, if◌then◌else◌, refl, sym, ap, ap₂, subst, ◌∙◌, true≢false, arith}
use Rattle.std.specs.List.{AllByRecursion, list_all}
use Rattle.std.proofs.lemmas.Bool.{ltb-true, ltb-false, eqb-true, eq-eqb}
use Rattle.og_query.specs.declared.condition.Cond.{Cond}
use Rattle.og_plan.specs.declared.plan.Home.{Home}
use Rattle.og_plan.specs.declared.plan.Home.TheVariants.{Leaf, Join}
use Rattle.og_plan.specs.Homes.{item_at, home_of_items, home_of}
use Rattle.og_plan.specs.Parts.{places_of}

-- how many columns there are
abbrev pub columns : List ℕ → ℕ
columns [] = 0
columns (width ∷ widths) = width + columns widths

-- the item whose leaf or join a home is
abbrev pub item_of : Home → ℕ
item_of (Leaf k) = k
item_of (Join k) = k

-- a place of an item before some is before the columns of those
before_item : (front widths : List ℕ) (place : ℕ) → item_at (front ++ widths) place < length front → place < columns front
before_item [] widths place l = absurd (omega (arith, l))
before_item (width ∷ front) widths place l = at (before_item front widths (place - width)) (nat_lt place width) refl l
  where
    at : (item_at (front ++ widths) (place - width) < length front → place - width < columns front) → (b : Bool) → nat_lt place width ≡ b
        → (if b then 0 else suc (item_at (front ++ widths) (place - width))) < suc (length front) → place < width + columns front
    at more true is l = omega (arith, ltb-true place width is)
    at more false is l = omega (arith, ltb-false place width is, more (omega (arith, l)))

-- a place of an item that is not before some is not before the columns of those
from_item : (front widths : List ℕ) (place : ℕ) → length front ≤ item_at (front ++ widths) place → columns front ≤ place
from_item [] widths place l = omega arith
from_item (width ∷ front) widths place l = at (from_item front widths (place - width)) (nat_lt place width) refl l
  where
    at : (length front ≤ item_at (front ++ widths) (place - width) → columns front ≤ place - width) → (b : Bool) → nat_lt place width ≡ b
        → suc (length front) ≤ (if b then 0 else suc (item_at (front ++ widths) (place - width))) → width + columns front ≤ place
    at more true is l = absurd (omega (arith, l))
    at more false is l = omega (arith, ltb-false place width is, more (omega (arith, l)))

-- each place of the columns is of one of the items
item_within : (widths : List ℕ) (place : ℕ) → place < columns widths → item_at widths place < length widths
item_within [] place l = absurd (omega (arith, l))
item_within (width ∷ widths) place l = at (item_within widths (place - width)) (nat_lt place width) refl
  where
    at : (place - width < columns widths → item_at widths (place - width) < length widths) → (b : Bool) → nat_lt place width ≡ b
        → (if b then 0 else suc (item_at widths (place - width))) < suc (length widths)
    at more true is = omega arith
    at more false is = omega (arith, more (omega (arith, l, ltb-false place width is)))

-- the numbers are below a number where the greatest is
greatest_below : (m first : ℕ) (ks : List ℕ) → fold max first ks < m → (first < m) × AllByRecursion (λ k. k < m) ks
greatest_below m first [] l = (l, tt)
greatest_below m first (k ∷ ks) l =
    let below = greatest_below m (max first k) ks l in (omega (arith, below.0), (omega (arith, below.0), below.1))

-- and the greatest is where they are
below_greatest : (m first : ℕ) (ks : List ℕ) → first < m → AllByRecursion (λ k. k < m) ks → fold max first ks < m
below_greatest m first [] l all = l
below_greatest m first (k ∷ ks) l all = below_greatest m (max first k) ks (omega (arith, l, all.0)) all.1

-- numbers that are all one are that one
all_one : (k : ℕ) (ks : List ℕ) → list_all (λ n. n == k) ks ≡ true → AllByRecursion (λ n. n ≡ k) ks
all_one k [] e = tt
all_one k (n ∷ ks) e = at (all_one k ks) (n == k) refl e
  where
    at : (list_all (λ n. n == k) ks ≡ true → AllByRecursion (λ n. n ≡ k) ks) → (b : Bool) → (n == k) ≡ b
        → (b && list_all (λ n. n == k) ks) ≡ true → (n ≡ k) × AllByRecursion (λ n. n ≡ k) ks
    at more true is e = (eqb-true n k is, more e)
    at more false is e = absurd (true≢false (sym e))

-- what holds of each that holds of another
pub all_weaker : {A : Type 0} (P Q : A → Type 0) → ((x : A) → P x → Q x) → (xs : List A) → AllByRecursion P xs → AllByRecursion Q xs
all_weaker P Q f [] all = tt
all_weaker P Q f (x ∷ xs) all = (f x all.0, all_weaker P Q f xs all.1)

-- what holds of all images holds of what they are made of
all_from_map : {A B : Type 0} (P : B → Type 0) (f : A → B) (xs : List A) → AllByRecursion P (map f xs) → AllByRecursion (λ x. P (f x)) xs
all_from_map P f [] all = tt
all_from_map P f (x ∷ xs) all = (all.0, all_from_map P f xs all.1)

-- and the other way round
all_of_map : {A B : Type 0} (P : B → Type 0) (f : A → B) (xs : List A) → AllByRecursion (λ x. P (f x)) xs → AllByRecursion P (map f xs)
all_of_map P f [] all = tt
all_of_map P f (x ∷ xs) all = (all.0, all_of_map P f xs all.1)

-- a home before an item is of items before it
items_before : (m : ℕ) (ks : List ℕ) → item_of (home_of_items ks) < m → AllByRecursion (λ k. k < m) ks
items_before m [] l = tt
items_before m (k ∷ ks) l = at (list_all (λ n. n == k) ks) refl l
  where
    at : (b : Bool) → list_all (λ n. n == k) ks ≡ b → item_of (if b then Leaf k else Join (fold max k ks)) < m → (k < m) × AllByRecursion (λ n. n < m) ks
    at true is l = (l, all_weaker (λ n. n ≡ k) (λ n. n < m) (λ n e. subst (λ z. z < m) (sym e) l) ks (all_one k ks is))
    at false is l = greatest_below m k ks l

-- items before one have their home before it
home_before : (m : ℕ) (ks : List ℕ) → 0 < m → AllByRecursion (λ k. k < m) ks → item_of (home_of_items ks) < m
home_before m [] some all = some
home_before m (k ∷ ks) some all = at (list_all (λ n. n == k) ks)
  where
    at : (b : Bool) → item_of (if b then Leaf k else Join (fold max k ks)) < m
    at true = all.0
    at false = below_greatest m k ks all.0 all.1

-- the home at a leaf is of that item alone
items_at_leaf : (k : ℕ) (ks : List ℕ) → home_of_items ks ≡ Leaf k → AllByRecursion (λ n. n ≡ k) ks
items_at_leaf k [] e = tt
items_at_leaf k (n ∷ ks) e = at (list_all (λ m. m == n) ks) refl e
  where
    at : (b : Bool) → list_all (λ m. m == n) ks ≡ b → (if b then Leaf n else Join (fold max n ks)) ≡ Leaf k → (n ≡ k) × AllByRecursion (λ m. m ≡ k) ks
    at true is e = let same : n ≡ k = ap item_of e in (same, all_weaker (λ m. m ≡ n) (λ m. m ≡ k) (λ m is. is ∙ same) ks (all_one n ks is))
    at false is e = cc

-- numbers that are all one are so by a test
all_tested : (k : ℕ) (ks : List ℕ) → AllByRecursion (λ n. n ≡ k) ks → list_all (λ n. n == k) ks ≡ true
all_tested k [] all = refl
all_tested k (n ∷ ks) all = ap₂ (λ a b. a && b) (eq-eqb n k all.0) (all_tested k ks all.1)

-- no home is at a join of the first item
pub after_first : (ks : List ℕ) (n : ℕ) → home_of_items ks ≡ Join n → 0 < n
after_first [] n e = cc
after_first (k ∷ ks) n e = at (list_all (λ m. m == k) ks) refl e
  where
    first : fold max k ks < 1 → list_all (λ m. m == k) ks ≡ true
    first l =
        let below = greatest_below 1 k ks l in
        all_tested k ks (all_weaker (λ m. m < 1) (λ m. m ≡ k) (λ m h. omega (arith, h, below.0)) ks below.1)

    some : (m : ℕ) → (m < 1 → ⊥) → 0 < m
    some zero none = absurd (none (omega arith))
    some (suc m) none = omega arith

    at : (b : Bool) → list_all (λ m. m == k) ks ≡ b → (if b then Leaf k else Join (fold max k ks)) ≡ Join n → 0 < n
    at true is e = cc
    at false is e = subst (λ m. 0 < m) (ap item_of e) (some (fold max k ks) (λ l. true≢false (sym (first l) ∙ is)))

module _ (front widths : List ℕ) (part : Cond) where
  -- a part at home before an item names columns before those of that item alone
  pub places_before : item_of (home_of (front ++ widths) part) < length front → AllByRecursion (λ place. place < columns front) (places_of part)
  places_before l =
      all_weaker (λ place. item_at (front ++ widths) place < length front) (λ place. place < columns front) (before_item front widths) (places_of part)
      (all_from_map (λ k. k < length front) (item_at (front ++ widths)) (places_of part) (items_before (length front) (map (item_at (front ++ widths)) (places_of part)) l))

  -- a part at home at a leaf names no column before those of its item
  pub places_from : home_of (front ++ widths) part ≡ Leaf (length front) → AllByRecursion (λ place. columns front ≤ place) (places_of part)
  places_from e =
      all_weaker (λ place. item_at (front ++ widths) place ≡ length front) (λ place. columns front ≤ place)
      (λ place is. from_item front widths place (omega (arith, is))) (places_of part)
      (all_from_map (λ k. k ≡ length front) (item_at (front ++ widths)) (places_of part) (items_at_leaf (length front) (map (item_at (front ++ widths)) (places_of part)) e))

-- a part that names columns of the items alone is at home at one of them
pub home_within : (widths : List ℕ) (part : Cond) → 0 < length widths → AllByRecursion (λ place. place < columns widths) (places_of part) → item_of (home_of widths part) < length widths
home_within widths part some all =
    home_before (length widths) (map (item_at widths) (places_of part)) some
    (all_of_map (λ k. k < length widths) (item_at widths) (places_of part)
    (all_weaker (λ place. place < columns widths) (λ place. item_at widths place < length widths) (item_within widths) (places_of part) all))
