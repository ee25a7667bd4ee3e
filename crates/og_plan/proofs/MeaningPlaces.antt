-- A condition says the same of two rows that have the same values at the places that it names, where on the one row they are counted from a later place.
use Rattle.std.proofs.Common.{◌≡◌, ◌++◌, ◌-◌, ◌<◌, ◌≤◌, ◌&&◌, ◌||◌, ℕ, ℤ, zero, suc, not, List, [], ◌∷◌, length, map, slice_index_or, refl, sym, ap, ap₂, subst, ◌∙◌, arith}
use Rattle.std.specs.List.{AllByRecursion, flat_map, list_all, list_any}
use Rattle.og_value.specs.declared.value.FixedValue.{FixedValue}
use Rattle.og_query.specs.Conditions.{compares, relates, is_empty, contains, truth}
use Rattle.og_query.specs.Expressions.{no_value, call_of, meaning}
use Rattle.og_query.specs.declared.expression.Expr.{Expr}
use Rattle.og_query.specs.declared.condition.Cond.{Cond}
use Rattle.og_query.proofs.Equations.{induction-Expr, induction-Cond, fold-Column, fold-Lit, fold-Call, fold-And, fold-Or, fold-Not, fold-Compare, fold-Relate, fold-Empty, fold-Contains, meaning-Column, meaning-Lit, meaning-Call, truth-And, truth-Or, truth-Not, truth-Compare, truth-Relate, truth-Empty, truth-Contains}
use Rattle.og_plan.specs.Parts.{expr_places_step, expr_places, places_step, places_of, expr_from_step, expr_from, cond_from_step, cond_from}
use Rattle.og_plan.proofs.PartEquations.{expr_places-Call, places_of-And, places_of-Or}

module _ {A : Type 0} (P : A → Type 0) where
  -- what holds of all of two lists holds of all of the first
  pub all_first : (xs ys : List A) → AllByRecursion P (xs ++ ys) → AllByRecursion P xs
  all_first [] ys all = tt
  all_first (x ∷ xs) ys all = (all.0, all_first xs ys all.1)

  -- and of the second
  pub all_second : (xs ys : List A) → AllByRecursion P (xs ++ ys) → AllByRecursion P ys
  all_second [] ys all = all
  all_second (x ∷ xs) ys all = all_second xs ys all.1

  -- and of both
  pub all_both : (xs ys : List A) → AllByRecursion P xs → AllByRecursion P ys → AllByRecursion P (xs ++ ys)
  all_both [] ys here there = there
  all_both (x ∷ xs) ys here there = (here.0, all_both xs ys here.1 there)

  -- what holds of each holds of all
  pub all_by_each : ((x : A) → P x) → (xs : List A) → AllByRecursion P xs
  all_by_each each [] = tt
  all_by_each each (x ∷ xs) = (each x, all_by_each each xs)

-- the value at a place of the first of two rows
pub at_first : {A : Type 0} (xs ys : List A) (place : ℕ) (d : A) → place < length xs → slice_index_or xs place d ≡ slice_index_or (xs ++ ys) place d
at_first [] ys place d l = absurd (omega (arith, l))
at_first (x ∷ xs) ys zero d l = refl
at_first (x ∷ xs) ys (suc place) d l = at_first xs ys place d (omega (arith, l))

-- a number less nothing
less_none : (n : ℕ) → n - 0 ≡ n
less_none n = omega arith

-- both numbers are one more
less_both : (m n : ℕ) → suc m - suc n ≡ m - n
less_both m n = omega arith

-- and of the second
pub at_second : {A : Type 0} (xs ys : List A) (place : ℕ) (d : A) → length xs ≤ place → slice_index_or ys (place - length xs) d ≡ slice_index_or (xs ++ ys) place d
at_second [] ys place d l = ap (λ n. slice_index_or ys n d) (less_none place)
at_second (x ∷ xs) ys zero d l = absurd (omega (arith, l))
at_second (x ∷ xs) ys (suc place) d l = ap (λ n. slice_index_or ys n d) (less_both place (length xs)) ∙ at_second xs ys place d (omega (arith, l))

module _ (d : ℤ) (a b : List FixedValue) (start : ℕ) (P : ℕ → Type 0)
    (same : (place : ℕ) → P place → slice_index_or a (place - start) no_value ≡ slice_index_or b place no_value) where
  -- the expression has one value on both rows
  abbrev IsSame : Expr → Type 0
  IsSame expr = AllByRecursion P (expr_places expr) → meaning d a (expr_from start expr) ≡ meaning d b expr

  -- all of the expressions have
  values_same : (args : List Expr) → AllByRecursion IsSame args → AllByRecursion P (flat_map expr_places args) → map (meaning d a) (map (expr_from start) args) ≡ map (meaning d b) args
  values_same [] each all = refl
  values_same (arg ∷ args) each all =
      let here = all_first P (expr_places arg) (flat_map expr_places args) all in
      let there = all_second P (expr_places arg) (flat_map expr_places args) all in
      ap₂ (λ x xs. x ∷ xs) (each.0 here) (values_same args each.1 there)

  -- an expression whose places are such has one value on both rows
  value_same : (expr : Expr) → IsSame expr
  value_same =
      induction-Expr IsSame
      (λ place all. ap (meaning d a) (fold-Column (expr_from_step start) place) ∙ meaning-Column d a (place - start)
      ∙ same place ((subst (AllByRecursion P) (fold-Column expr_places_step place) all).0) ∙ sym (meaning-Column d b place))
      (λ value all. ap (meaning d a) (fold-Lit (expr_from_step start) value) ∙ meaning-Lit d a value ∙ sym (meaning-Lit d b value))
      (λ func args each all. ap (meaning d a) (fold-Call (expr_from_step start) func args) ∙ meaning-Call d a func (map (expr_from start) args)
      ∙ ap (call_of func) (values_same args each (subst (AllByRecursion P) (expr_places-Call func args) all)) ∙ sym (meaning-Call d b func args))

  -- the condition says the same of both rows
  abbrev IsTold : Cond → Type 0
  IsTold cond = AllByRecursion P (places_of cond) → truth d a (cond_from start cond) ≡ truth d b cond

  -- all of the conditions hold of the one row where they do of the other
  all_told : (conds : List Cond) → AllByRecursion IsTold conds → AllByRecursion P (flat_map places_of conds) → list_all (truth d a) (map (cond_from start) conds) ≡ list_all (truth d b) conds
  all_told [] each all = refl
  all_told (cond ∷ conds) each all =
      let here = all_first P (places_of cond) (flat_map places_of conds) all in
      let there = all_second P (places_of cond) (flat_map places_of conds) all in
      ap₂ (λ x y. x && y) (each.0 here) (all_told conds each.1 there)

  -- and some of them
  any_told : (conds : List Cond) → AllByRecursion IsTold conds → AllByRecursion P (flat_map places_of conds) → list_any (truth d a) (map (cond_from start) conds) ≡ list_any (truth d b) conds
  any_told [] each all = refl
  any_told (cond ∷ conds) each all =
      let here = all_first P (places_of cond) (flat_map places_of conds) all in
      let there = all_second P (places_of cond) (flat_map places_of conds) all in
      ap₂ (λ x y. x || y) (each.0 here) (any_told conds each.1 there)

  -- the two expressions of a condition have one value on both rows
  two_same : {A : Type 0} (f : FixedValue → FixedValue → A) (left right : Expr) → AllByRecursion P (expr_places left ++ expr_places right)
      → f (meaning d a (expr_from start left)) (meaning d a (expr_from start right)) ≡ f (meaning d b left) (meaning d b right)
  two_same f left right all =
      ap₂ f (value_same left (all_first P (expr_places left) (expr_places right) all)) (value_same right (all_second P (expr_places left) (expr_places right) all))

  -- a condition whose places are such says the same of both rows
  told_same : (cond : Cond) → AllByRecursion P (places_of cond) → truth d a (cond_from start cond) ≡ truth d b cond
  told_same =
      induction-Cond IsTold
      (λ conds each all. ap (truth d a) (fold-And (cond_from_step start) conds) ∙ truth-And d a (map (cond_from start) conds)
      ∙ all_told conds each (subst (AllByRecursion P) (places_of-And conds) all) ∙ sym (truth-And d b conds))
      (λ conds each all. ap (truth d a) (fold-Or (cond_from_step start) conds) ∙ truth-Or d a (map (cond_from start) conds)
      ∙ any_told conds each (subst (AllByRecursion P) (places_of-Or conds) all) ∙ sym (truth-Or d b conds))
      (λ cond told all. ap (truth d a) (fold-Not (cond_from_step start) cond) ∙ truth-Not d a (cond_from start cond)
      ∙ ap not (told (subst (AllByRecursion P) (fold-Not places_step cond) all)) ∙ sym (truth-Not d b cond))
      (λ op left right all. ap (truth d a) (fold-Compare (cond_from_step start) op left right) ∙ truth-Compare d a op (expr_from start left) (expr_from start right)
      ∙ two_same (compares op) left right (subst (AllByRecursion P) (fold-Compare places_step op left right) all) ∙ sym (truth-Compare d b op left right))
      (λ pred left right all. ap (truth d a) (fold-Relate (cond_from_step start) pred left right) ∙ truth-Relate d a pred (expr_from start left) (expr_from start right)
      ∙ two_same (relates pred) left right (subst (AllByRecursion P) (fold-Relate places_step pred left right) all) ∙ sym (truth-Relate d b pred left right))
      (λ period all. ap (truth d a) (fold-Empty (cond_from_step start) period) ∙ truth-Empty d a (expr_from start period)
      ∙ ap is_empty (value_same period (subst (AllByRecursion P) (fold-Empty places_step period) all)) ∙ sym (truth-Empty d b period))
      (λ period day all. ap (truth d a) (fold-Contains (cond_from_step start) period day) ∙ truth-Contains d a (expr_from start period) (expr_from start day)
      ∙ two_same contains period day (subst (AllByRecursion P) (fold-Contains places_step period day) all) ∙ sym (truth-Contains d b period day))

-- a condition whose places are counted from the first says the same
pub truth-from_first : (d : ℤ) (row : List FixedValue) (cond : Cond) → truth d row (cond_from 0 cond) ≡ truth d row cond
truth-from_first d row cond =
    told_same d row row 0 (λ place. 0 ≤ place) (λ place l. ap (λ n. slice_index_or row n no_value) (less_none place)) cond
    (all_by_each (λ place. 0 ≤ place) (λ place. omega arith) (places_of cond))

module _ (d : ℤ) (left right : List FixedValue) (cond : Cond) where
  -- a condition that names columns of the first row alone says the same of it as of both together
  pub truth-first : AllByRecursion (λ place. place < length left) (places_of cond) → truth d left cond ≡ truth d (left ++ right) cond
  truth-first all =
      sym (truth-from_first d left cond)
      ∙ told_same d left (left ++ right) 0 (λ place. place < length left) (λ place l. ap (λ n. slice_index_or left n no_value) (less_none place) ∙ at_first left right place no_value l) cond all

  -- and one that names columns of the second row alone, where its places are counted from there
  pub truth-second : AllByRecursion (λ place. length left ≤ place) (places_of cond) → truth d right (cond_from (length left) cond) ≡ truth d (left ++ right) cond
  truth-second = told_same d right (left ++ right) (length left) (λ place. length left ≤ place) (λ place l. at_second left right place no_value l) cond
