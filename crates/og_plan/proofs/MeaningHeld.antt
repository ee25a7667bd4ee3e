-- Which parts hold of the rows of the first items: those at home before a number of items.
use Rattle.std.proofs.Common.{◌≡◌, ◌++◌, ◌<◌, ◌≤◌, ◌==◌, ◌&&◌, ℕ, ℤ, suc, nat_lt, Bool, true, false, List, [], ◌∷◌, length, map, filter, if◌then◌else◌, refl, sym, ap, ap₂, subst, ◌∙◌, arith}
use Rattle.std.specs.List.{AllByRecursion, list_all}
use Rattle.std.proofs.lemmas.Bool.{ltb-true, ltb-false, lt-ltb, eqb-true, eqb-false}
use Rattle.std.proofs.lemmas.List.Folds.{list_all-map}
use Rattle.og_query.specs.Conditions.{truth}
use Rattle.og_query.specs.Queries.{Fixed}
use Rattle.og_query.specs.declared.condition.Cond.{Cond}
use Rattle.og_plan.specs.declared.plan.Home.{Home}
use Rattle.og_plan.specs.declared.plan.Home.TheVariants.{Leaf, Join}
use Rattle.og_plan.specs.Homes.{item_at, home_of, same_home, parts_at}
use Rattle.og_plan.specs.Meaning.{all_hold}
use Rattle.og_plan.specs.Parts.{places_of, cond_from}
use Rattle.og_plan.proofs.MeaningPlaces.{all_by_each, truth-from_first, truth-first, truth-second}
use Rattle.og_plan.proofs.MeaningParts.{and_true}
use Rattle.og_plan.proofs.MeaningHomes.{columns, item_of, places_before, places_from, home_within, after_first}

-- a truth where it is asked, and true where it is not
abbrev asked : Bool → Bool → Bool
asked b t = if b then t else true

-- what is asked of a number before another, and of that number, is asked of each up to it
number_asked : (n k : ℕ) (a b c : Bool) → (n < k → a ≡ c) → (n ≡ k → b ≡ c) → (asked (nat_lt n k) a && asked (n == k) b) ≡ asked (nat_lt n (suc k)) c
number_asked n k a b c before here = at (nat_lt n k) (n == k) (nat_lt n (suc k)) refl refl refl
  where
    at : (x y z : Bool) → nat_lt n k ≡ x → (n == k) ≡ y → nat_lt n (suc k) ≡ z → (asked x a && asked y b) ≡ asked z c
    at true true z is one more = absurd (omega (arith, ltb-true n k is, eqb-true n k one))
    at true false true is one more = and_true a ∙ before (ltb-true n k is)
    at true false false is one more = absurd (omega (arith, ltb-true n k is, ltb-false n (suc k) more))
    at false true true is one more = here (eqb-true n k one)
    at false true false is one more = absurd (omega (arith, eqb-true n k one, ltb-false n (suc k) more))
    at false false true is one more = absurd (eqb-false n k one (omega (arith, ltb-false n k is, ltb-true n (suc k) more)))
    at false false false is one more = refl

-- what is asked at homes before an item, at its leaf and at its join is asked at each home up to it
home_asked : (h : Home) (k : ℕ) (a b c : Bool) → (item_of h < k → a ≡ c) → (h ≡ Leaf k → b ≡ c)
    → (asked (nat_lt (item_of h) k) a && (asked (same_home h (Leaf k)) b && asked (same_home h (Join k)) c)) ≡ asked (nat_lt (item_of h) (suc k)) c
home_asked (Leaf n) k a b c before here =
    ap (λ t. asked (nat_lt n k) a && t) (and_true (asked (n == k) b)) ∙ number_asked n k a b c before (λ e. here (ap Leaf e))
home_asked (Join n) k a b c before here = number_asked n k a c c before (λ e. refl)

-- what is true is so where it is asked
asked_true : (b : Bool) → asked b true ≡ true
asked_true true = refl
asked_true false = refl

-- what is asked at the first leaf is asked at each home before the second item
first_asked : (h : Home) (b c : Bool) → (b ≡ c) → ((n : ℕ) → h ≡ Join n → 0 < n) → asked (same_home h (Leaf 0)) b ≡ asked (nat_lt (item_of h) 1) c
first_asked (Leaf n) b c same after =
    ap (λ t. t && asked (n == 0) b) (sym (asked_true (nat_lt n 0))) ∙ number_asked n 0 true b c (λ l. absurd (omega (arith, l))) (λ e. same)
first_asked (Join n) b c same after = at (nat_lt n 1) refl
  where
    at : (x : Bool) → nat_lt n 1 ≡ x → true ≡ asked x c
    at true is = absurd (omega (arith, ltb-true n 1 is, after n refl))
    at false is = refl

-- six truths, and which are together
and_sorted : (a b c x y z : Bool) → ((a && x) && ((b && y) && (c && z))) ≡ ((a && (b && c)) && (x && (y && z)))
and_sorted false b c x y z = refl
and_sorted true false c true y z = refl
and_sorted true false c false y z = refl
and_sorted true true false true true z = refl
and_sorted true true false true false z = refl
and_sorted true true false false y z = refl
and_sorted true true true x y z = refl

module _ {A : Type 0} where
  -- three tests of all together are another test of all
  three_tests : (p q r t : A → Bool) → ((x : A) → (p x && (q x && r x)) ≡ t x) → (xs : List A) → (list_all p xs && (list_all q xs && list_all r xs)) ≡ list_all t xs
  three_tests p q r t each [] = refl
  three_tests p q r t each (x ∷ xs) =
      and_sorted (p x) (q x) (r x) (list_all p xs) (list_all q xs) (list_all r xs) ∙ ap₂ (λ a b. a && b) (each x) (three_tests p q r t each xs)

  -- a test of all that pass another
  list_all-filter : (p q : A → Bool) (xs : List A) → list_all p (filter q xs) ≡ list_all (λ x. asked (q x) (p x)) xs
  list_all-filter p q [] = refl
  list_all-filter p q (x ∷ xs) = at (q x) (list_all-filter p q xs)
    where
      at : (b : Bool) → list_all p (filter q xs) ≡ list_all (λ x. asked (q x) (p x)) xs
          → list_all p (if b then x ∷ filter q xs else filter q xs) ≡ (asked b (p x) && list_all (λ x. asked (q x) (p x)) xs)
      at true e = ap (λ b. p x && b) e
      at false e = e

  -- two tests that agree on all
  all_agree : (p q : A → Bool) (xs : List A) → AllByRecursion (λ x. p x ≡ q x) xs → list_all p xs ≡ list_all q xs
  all_agree p q [] all = refl
  all_agree p q (x ∷ xs) all = ap₂ (λ a b. a && b) all.0 (all_agree p q xs all.1)

module _ (d : ℤ) (widths : List ℕ) (parts : List Cond) where
  -- the parts at home before item k hold of the row
  abbrev pub held : ℕ → Fixed → Bool
  held k row = list_all (λ part. asked (nat_lt (item_of (home_of widths part)) k) (truth d row part)) parts

  -- the parts at leaf k, counted from its first column, hold of a row of its table
  abbrev pub held_at_leaf : ℕ → ℕ → Fixed → Bool
  held_at_leaf k start row = all_hold d (map (cond_from start) (parts_at widths (Leaf k) parts)) row

  -- the same, by the parts of all homes
  leaf_held : (k start : ℕ) (row : Fixed) → held_at_leaf k start row ≡ list_all (λ part. asked (same_home (home_of widths part) (Leaf k)) (truth d row (cond_from start part))) parts
  leaf_held k start row =
      list_all-map (truth d row) (cond_from start) (parts_at widths (Leaf k) parts)
      ∙ list_all-filter (λ part. truth d row (cond_from start part)) (λ part. same_home (home_of widths part) (Leaf k)) parts

  -- what holds of the row of the items before, at the leaf and at the join holds of the joined row
  pub held_more : (front more : List ℕ) (l r : Fixed) → front ++ more ≡ widths → length l ≡ columns front
      → (held (length front) l && (held_at_leaf (length front) (length l) r && all_hold d (parts_at widths (Join (length front)) parts) (l ++ r))) ≡ held (suc (length front)) (l ++ r)
  held_more front more l r split wide =
      ap₂ (λ a b. held (length front) l && (a && b)) (leaf_held (length front) (length l) r)
      (list_all-filter (truth d (l ++ r)) (λ part. same_home (home_of widths part) (Join (length front))) parts)
      ∙ three_tests
      (λ part. asked (nat_lt (item_of (home_of widths part)) (length front)) (truth d l part))
      (λ part. asked (same_home (home_of widths part) (Leaf (length front))) (truth d r (cond_from (length l) part)))
      (λ part. asked (same_home (home_of widths part) (Join (length front))) (truth d (l ++ r) part))
      (λ part. asked (nat_lt (item_of (home_of widths part)) (suc (length front))) (truth d (l ++ r) part))
      (λ part. home_asked (home_of widths part) (length front) (truth d l part) (truth d r (cond_from (length l) part)) (truth d (l ++ r) part)
      (λ h. truth-first d l r part
      (subst (λ n. AllByRecursion (λ place. place < n) (places_of part)) (sym wide)
      (places_before front more part (subst (λ w. item_of (home_of w part) < length front) (sym split) h))))
      (λ h. truth-second d l r part
      (subst (λ n. AllByRecursion (λ place. n ≤ place) (places_of part)) (sym wide)
      (places_from front more part (subst (λ w. home_of w part ≡ Leaf (length front)) (sym split) h)))))
      parts

  -- what holds at the first leaf
  pub held_first : (row : Fixed) → held_at_leaf 0 0 row ≡ held 1 row
  held_first row =
      leaf_held 0 0 row
      ∙ all_agree
      (λ part. asked (same_home (home_of widths part) (Leaf 0)) (truth d row (cond_from 0 part)))
      (λ part. asked (nat_lt (item_of (home_of widths part)) 1) (truth d row part)) parts
      (all_by_each _ (λ part. first_asked (home_of widths part) (truth d row (cond_from 0 part)) (truth d row part) (truth-from_first d row part) (after_first (map (item_at widths) (places_of part)))) parts)

  -- all parts are at home before the end of the items
  pub held_all : (row : Fixed) → 0 < length widths → AllByRecursion (λ part. AllByRecursion (λ place. place < columns widths) (places_of part)) parts
      → held (length widths) row ≡ all_hold d parts row
  held_all row some = at parts
    where
      at : (ps : List Cond) → AllByRecursion (λ part. AllByRecursion (λ place. place < columns widths) (places_of part)) ps
          → list_all (λ part. asked (nat_lt (item_of (home_of widths part)) (length widths)) (truth d row part)) ps ≡ list_all (truth d row) ps
      at [] all = refl
      at (part ∷ ps) all =
          ap₂ (λ a b. asked a (truth d row part) && b) (lt-ltb (item_of (home_of widths part)) (length widths) (home_within widths part some all.0)) (at ps all.1)
