-- The columns of a join say what the parts say that they were found in.
use Rattle.std.proofs.Common.{◌≡◌, ◌++◌, ◌-◌, ◌&&◌, ℕ, ℤ, nat_lt, nat_le, Bool, true, false, not, List, [], ◌∷◌, Option, Some, None, is_some, length, filter, if◌then◌else◌, Ordering, Less, Equal, Greater, int_cmp, int_le, int_lt, refl, sym, ap, ap₂, ◌∙◌}
use Rattle.std.specs.List.{flat_map, list_all}
use Rattle.std.specs.Ordering.{ordering_reverse}
use Rattle.std.proofs.lemmas.Bool.{ltb-true, leb-true, and_parts}
use Rattle.std.proofs.lemmas.Cmp.{int_cmp_total, nat_list_cmp_total}
use Rattle.og_value.specs.declared.kind.Kind.{Kind}
use Rattle.og_value.specs.declared.term.Cmp.{Cmp}
use Rattle.og_value.specs.declared.term.Cmp.TheVariants as cmp
use Rattle.og_value.specs.declared.term.Pred.{Pred}
use Rattle.og_value.specs.declared.term.Pred.TheVariants as pred
use Rattle.og_value.specs.declared.value.FixedValue.{FixedValue}
use Rattle.og_value.specs.declared.value.FixedValue.TheVariants as f
use Rattle.og_query.specs.Conditions.{allows, compares, relates, truth}
use Rattle.og_query.specs.Expressions.{meaning}
use Rattle.og_query.specs.Queries.{Fixed}
use Rattle.og_query.specs.declared.expression.Expr.{Expr}
use Rattle.og_query.specs.declared.condition.Cond.{Cond}
use Rattle.og_query.specs.declared.condition.Cond.TheOpen as c
use Rattle.og_query.proofs.Equations.{induction-Expr, induction-Cond, fold-Column, fold-Lit, fold-Call, fold-And, fold-Or, fold-Not, fold-Compare, fold-Relate, fold-Empty, fold-Contains, meaning-Column, truth-Compare, truth-Relate}
use Rattle.og_plan.specs.declared.plan.ColPair.{ColPair}
use Rattle.og_plan.specs.Joins.{listed, across, are_key_kinds, kind_at, key_step, key_of, overlap_step, overlap_of}
use Rattle.og_plan.specs.Meaning.{column, are_equal, do_overlap}
use Rattle.og_plan.specs.Parts.{column_step, column_of}
use Rattle.og_plan.proofs.MeaningPlaces.{at_first, at_second}

-- equality is allowed either way round
equal_either_way : (o : Ordering) → allows cmp.Eq (ordering_reverse o) ≡ allows cmp.Eq o
equal_either_way Less = refl
equal_either_way Equal = refl
equal_either_way Greater = refl

-- two values are equal either way round
equal_swapped : (x y : FixedValue) → compares cmp.Eq x y ≡ compares cmp.Eq y x
equal_swapped (f.Int m) (f.Int n) = ap (allows cmp.Eq) (int_cmp_total.antisymm m n) ∙ equal_either_way (int_cmp n m)
equal_swapped (f.Text s) (f.Text t) = ap (allows cmp.Eq) (nat_list_cmp_total.antisymm s t) ∙ equal_either_way _
equal_swapped (f.Date a) (f.Date b) = ap (allows cmp.Eq) (int_cmp_total.antisymm a b) ∙ equal_either_way (int_cmp b a)
equal_swapped (f.Int m) (f.Text t) = refl
equal_swapped (f.Int m) (f.Date b) = refl
equal_swapped (f.Int m) (f.Period q) = refl
equal_swapped (f.Text s) (f.Int n) = refl
equal_swapped (f.Text s) (f.Date b) = refl
equal_swapped (f.Text s) (f.Period q) = refl
equal_swapped (f.Date a) (f.Int n) = refl
equal_swapped (f.Date a) (f.Text t) = refl
equal_swapped (f.Date a) (f.Period q) = refl
equal_swapped (f.Period p) (f.Int n) = refl
equal_swapped (f.Period p) (f.Text t) = refl
equal_swapped (f.Period p) (f.Date b) = refl
equal_swapped (f.Period p) (f.Period q) = refl

-- two truths in either order, and two others
and_swapped : (p q x y : Bool) → ((not p && not q) && (x && y)) ≡ ((not q && not p) && (y && x))
and_swapped true true x y = refl
and_swapped true false x y = refl
and_swapped false true x y = refl
and_swapped false false true true = refl
and_swapped false false true false = refl
and_swapped false false false true = refl
and_swapped false false false false = refl

-- two periods overlap either way round
overlap_swapped : (x y : FixedValue) → relates pred.Overlaps x y ≡ relates pred.Overlaps y x
overlap_swapped (f.Period p) (f.Period q) = and_swapped (int_le p.end p.start) (int_le q.end q.start) (int_lt p.start q.end) (int_lt q.start p.end)
overlap_swapped (f.Int m) (f.Int n) = refl
overlap_swapped (f.Int m) (f.Text t) = refl
overlap_swapped (f.Int m) (f.Date b) = refl
overlap_swapped (f.Int m) (f.Period q) = refl
overlap_swapped (f.Text s) (f.Int n) = refl
overlap_swapped (f.Text s) (f.Text t) = refl
overlap_swapped (f.Text s) (f.Date b) = refl
overlap_swapped (f.Text s) (f.Period q) = refl
overlap_swapped (f.Date a) (f.Int n) = refl
overlap_swapped (f.Date a) (f.Text t) = refl
overlap_swapped (f.Date a) (f.Date b) = refl
overlap_swapped (f.Date a) (f.Period q) = refl
overlap_swapped (f.Period p) (f.Int n) = refl
overlap_swapped (f.Period p) (f.Text t) = refl
overlap_swapped (f.Period p) (f.Date b) = refl

-- a value that there is not is no value
no_pair : {A G : Type 0} (x : A) → None ≡ Some x → G
no_pair x e = cc

module _ (d : ℤ) (row : Fixed) where
  -- the value of an expression that is a column
  column_value : (expr : Expr) (place : ℕ) → column_of expr ≡ Some place → meaning d row expr ≡ column row place
  column_value =
      induction-Expr (λ expr. (place : ℕ) → column_of expr ≡ Some place → meaning d row expr ≡ column row place)
      (λ place other e. meaning-Column d row place ∙ ap (column row) (same place other (sym (fold-Column column_step place) ∙ e)))
      (λ value place e. no_pair place (sym (fold-Lit column_step value) ∙ e))
      (λ func args each place e. no_pair place (sym (fold-Call column_step func args) ∙ e))
    where
      same : (m n : ℕ) → Some m ≡ Some n → m ≡ n
      same m n e = cc

module _ (d : ℤ) (kinds : List Kind) (l r : Fixed) where
  -- a pair of columns
  abbrev pair_of : ℕ → ℕ → ColPair
  pair_of m n = record { left = m; right = n }

  -- what is asked of the columns of a pair is asked of the two columns of the joined row
  across_told : (ask : FixedValue → FixedValue → Bool) → ((x y : FixedValue) → ask x y ≡ ask y x) → (a b : ℕ) (pair : ColPair)
      → across (length l) (Some a) (Some b) ≡ Some pair → ask (column l pair.left) (column r pair.right) ≡ ask (column (l ++ r) a) (column (l ++ r) b)
  across_told ask swapped a b pair e = at (nat_lt a (length l) && nat_le (length l) b) (nat_lt b (length l) && nat_le (length l) a) refl refl e
    where
      of_two : (m n : ℕ) → (nat_lt m (length l) && nat_le (length l) n) ≡ true → Some (pair_of m (n - length l)) ≡ Some pair
          → ask (column l pair.left) (column r pair.right) ≡ ask (column (l ++ r) m) (column (l ++ r) n)
      of_two m n is e =
          let both = and_parts (nat_lt m (length l)) (nat_le (length l) n) is in
          let same : pair ≡ pair_of m (n - length l) = cc in
          ap (λ p. ask (column l p.left) (column r p.right)) same
          ∙ ap₂ ask (at_first l r m _ (ltb-true m (length l) both.0)) (at_second l r n _ (leb-true (length l) n both.1))

      at : (x y : Bool) → (nat_lt a (length l) && nat_le (length l) b) ≡ x → (nat_lt b (length l) && nat_le (length l) a) ≡ y
          → (if x then Some (pair_of a (b - length l)) else (if y then Some (pair_of b (a - length l)) else None)) ≡ Some pair
          → ask (column l pair.left) (column r pair.right) ≡ ask (column (l ++ r) a) (column (l ++ r) b)
      at true y is other e = of_two a b is e
      at false true is other e = of_two b a other e ∙ swapped (column (l ++ r) b) (column (l ++ r) a)
      at false false is other e = no_pair pair e

  -- what is asked of two expressions that are columns, where the pair of them was found
  columns_told : (ask : FixedValue → FixedValue → Bool) → ((x y : FixedValue) → ask x y ≡ ask y x) → (left right : Expr) (pair : ColPair)
      → across (length l) (column_of left) (column_of right) ≡ Some pair → ask (column l pair.left) (column r pair.right) ≡ ask (meaning d (l ++ r) left) (meaning d (l ++ r) right)
  columns_told ask swapped left right pair e = at (column_of left) (column_of right) refl refl e
    where
      at : (a b : Option ℕ) → column_of left ≡ a → column_of right ≡ b → across (length l) a b ≡ Some pair
          → ask (column l pair.left) (column r pair.right) ≡ ask (meaning d (l ++ r) left) (meaning d (l ++ r) right)
      at (Some a) (Some b) is other e =
          across_told ask swapped a b pair e ∙ sym (ap₂ ask (column_value d (l ++ r) left a is) (column_value d (l ++ r) right b other))
      at (Some a) None is other e = no_pair pair e
      at None b is other e = no_pair pair e

  -- a comparison in which a key was found
  compare_told : (op : Cmp) (left right : Expr) (pair : ColPair) → key_step kinds (length l) (c.Compare op left right) ≡ Some pair
      → are_equal l r pair ≡ compares op (meaning d (l ++ r) left) (meaning d (l ++ r) right)
  compare_told cmp.Eq left right pair e = at (are_key_kinds (kind_at kinds (column_of left)) (kind_at kinds (column_of right))) e
    where
      at : (b : Bool) → (if b then across (length l) (column_of left) (column_of right) else None) ≡ Some pair
          → are_equal l r pair ≡ compares cmp.Eq (meaning d (l ++ r) left) (meaning d (l ++ r) right)
      at true e = columns_told (compares cmp.Eq) equal_swapped left right pair e
      at false e = no_pair pair e
  compare_told _ left right pair e = no_pair pair e

  -- a key says what the part says that it was found in
  pub key_told : (cond : Cond) (pair : ColPair) → key_of kinds (length l) cond ≡ Some pair → are_equal l r pair ≡ truth d (l ++ r) cond
  key_told =
      induction-Cond (λ cond. (pair : ColPair) → key_of kinds (length l) cond ≡ Some pair → are_equal l r pair ≡ truth d (l ++ r) cond)
      (λ conds each pair e. no_pair pair (sym (fold-And (key_step kinds (length l)) conds) ∙ e))
      (λ conds each pair e. no_pair pair (sym (fold-Or (key_step kinds (length l)) conds) ∙ e))
      (λ cond told pair e. no_pair pair (sym (fold-Not (key_step kinds (length l)) cond) ∙ e))
      (λ op left right pair e. compare_told op left right pair (sym (fold-Compare (key_step kinds (length l)) op left right) ∙ e) ∙ sym (truth-Compare d (l ++ r) op left right))
      (λ pred left right pair e. no_pair pair (sym (fold-Relate (key_step kinds (length l)) pred left right) ∙ e))
      (λ period pair e. no_pair pair (sym (fold-Empty (key_step kinds (length l)) period) ∙ e))
      (λ period day pair e. no_pair pair (sym (fold-Contains (key_step kinds (length l)) period day) ∙ e))

  -- a predicate in which periods that overlap were found
  relate_told : (relation : Pred) (left right : Expr) (pair : ColPair) → overlap_step (length l) (c.Relate relation left right) ≡ Some pair
      → do_overlap l r pair ≡ relates relation (meaning d (l ++ r) left) (meaning d (l ++ r) right)
  relate_told pred.Overlaps left right pair e = columns_told (relates pred.Overlaps) overlap_swapped left right pair e
  relate_told _ left right pair e = no_pair pair e

  -- periods that overlap say what the part says that they were found in
  pub overlap_told : (cond : Cond) (pair : ColPair) → overlap_of (length l) cond ≡ Some pair → do_overlap l r pair ≡ truth d (l ++ r) cond
  overlap_told =
      induction-Cond (λ cond. (pair : ColPair) → overlap_of (length l) cond ≡ Some pair → do_overlap l r pair ≡ truth d (l ++ r) cond)
      (λ conds each pair e. no_pair pair (sym (fold-And (overlap_step (length l)) conds) ∙ e))
      (λ conds each pair e. no_pair pair (sym (fold-Or (overlap_step (length l)) conds) ∙ e))
      (λ cond told pair e. no_pair pair (sym (fold-Not (overlap_step (length l)) cond) ∙ e))
      (λ op left right pair e. no_pair pair (sym (fold-Compare (overlap_step (length l)) op left right) ∙ e))
      (λ relation left right pair e. relate_told relation left right pair (sym (fold-Relate (overlap_step (length l)) relation left right) ∙ e) ∙ sym (truth-Relate d (l ++ r) relation left right))
      (λ period pair e. no_pair pair (sym (fold-Empty (overlap_step (length l)) period) ∙ e))
      (λ period day pair e. no_pair pair (sym (fold-Contains (overlap_step (length l)) period day) ∙ e))

-- three truths, and which are together
pub and_apart : (a b c : Bool) → ((a && b) && c) ≡ (a && (b && c))
and_apart true b c = refl
and_apart false b c = refl

-- two truths before a third
and_across : (a b c : Bool) → (a && (b && c)) ≡ (b && (a && c))
and_across true true c = refl
and_across true false c = refl
and_across false true c = refl
and_across false false c = refl

-- a truth said twice
and_twice : (a b : Bool) → (a && (a && b)) ≡ (a && b)
and_twice true b = refl
and_twice false b = refl

module _ {A B : Type 0} (find : A → Option B) (ask : B → Bool) (test : A → Bool) (told : (x : A) (y : B) → find x ≡ Some y → ask y ≡ test x) where
  -- all that was found holds, and all in which nothing was found, where all hold
  pub found_and_rest : (xs : List A) → (list_all ask (flat_map (λ x. listed (find x)) xs) && list_all test (filter (λ x. not (is_some (find x))) xs)) ≡ list_all test xs
  found_and_rest [] = refl
  found_and_rest (x ∷ xs) = at (find x) refl (found_and_rest xs)
    where
      found : List B
      found = flat_map (λ x. listed (find x)) xs

      rest : List A
      rest = filter (λ x. not (is_some (find x))) xs

      at : (o : Option B) → find x ≡ o → (list_all ask found && list_all test rest) ≡ list_all test xs
          → (list_all ask (listed o ++ found) && list_all test (if not (is_some o) then x ∷ rest else rest)) ≡ (test x && list_all test xs)
      at (Some y) is e = and_apart (ask y) (list_all ask found) (list_all test rest) ∙ ap₂ (λ a b. a && b) (told x y is) e
      at None is e = and_across (list_all ask found) (test x) (list_all test rest) ∙ ap (λ b. test x && b) e

  -- the first that was found adds nothing to all
  pub first_adds_nothing : (xs : List A) (y : B) (ys : List B) → flat_map (λ x. listed (find x)) xs ≡ y ∷ ys → (ask y && list_all test xs) ≡ list_all test xs
  first_adds_nothing [] y ys e = cc
  first_adds_nothing (x ∷ xs) y ys e = at (find x) refl (first_adds_nothing xs y ys) e
    where
      found : List B
      found = flat_map (λ x. listed (find x)) xs

      at : (o : Option B) → find x ≡ o → (found ≡ y ∷ ys → (ask y && list_all test xs) ≡ list_all test xs)
          → listed o ++ found ≡ y ∷ ys → (ask y && (test x && list_all test xs)) ≡ (test x && list_all test xs)
      at (Some z) is more e =
          let same : y ≡ z = cc in
          ap (λ b. b && (test x && list_all test xs)) (ap ask same ∙ told x z is) ∙ and_twice (test x) (list_all test xs)
      at None is more e = and_across (ask y) (test x) (list_all test xs) ∙ ap (λ b. test x && b) (more e)
