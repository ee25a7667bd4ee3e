-- A row stands in the group that a row seeks which meets it.
use Rattle.std.proofs.Common.{◌≡◌, ◌++◌, ◌+◌, ◌<◌, ◌==◌, ◌&&◌, ℕ, zero, suc, ℤ, Bool, true, false, List, [], ◌∷◌, Option, Some, None, length, replicate, slice_get, slice_index_or, if◌then◌else◌, Ordering, Less, Equal, Greater, refl, sym, ap, ap₂, subst, ◌∙◌, arith}
use Rattle.std.specs.List.{fold, list_any}
use Rattle.std.specs.Option.{is_some}
use Rattle.std.specs.Ordering.{ordering_then}
use Rattle.std.proofs.lemmas.Bool.{and_parts}
use Rattle.std.proofs.lemmas.Bool.Decides.{Decides-eqb}
use Rattle.std.proofs.lemmas.List.{length-map}
use Rattle.std.proofs.lemmas.Option.{same_Some}
use Rattle.og_base.specs.GroupLaws.{share-first}
use Rattle.og_base.specs.Groups.{share_group}
use Rattle.og_base.specs.declared.row.Groups.{Groups}
use Rattle.og_value.specs.GroupLaws.{values_digested}
use Rattle.og_value.specs.Order.{value_order}
use Rattle.og_value.specs.Values.{value_at, row_at}
use Rattle.og_value.specs.declared.kind.Kind.TheVariants as k
use Rattle.og_value.specs.declared.term.Cmp.{Cmp}
use Rattle.og_value.specs.declared.term.Cmp.TheVariants as cmp
use Rattle.og_value.specs.declared.value.FixedValue.{FixedValue}
use Rattle.og_value.specs.declared.value.FixedValue.TheVariants as f
use Rattle.og_value.specs.declared.value.Value.{Value}
use Rattle.og_query.specs.Conditions.{allows, compares, truth}
use Rattle.og_query.specs.Queries.{Fixed}
use Rattle.og_query.specs.declared.condition.Cond.{Cond}
use Rattle.og_query.specs.declared.condition.Cond.TheVariants.{Compare}
use Rattle.og_query.specs.declared.condition.Cond.TheOpen as c
use Rattle.og_query.specs.declared.expression.Expr.{Expr}
use Rattle.og_query.proofs.Equations.{induction-Cond, fold-And, fold-Or, fold-Not, fold-Compare, fold-Relate, fold-Empty, fold-Contains}
use Rattle.og_query.proofs.QueryLemmas.{rows_ordered}
use Rattle.og_plan.specs.Joins.{across, are_key_kinds, kind_at, key_step}
use Rattle.og_plan.specs.Meaning.{all_hold, are_equal, column}
use Rattle.og_plan.specs.Parts.{column_of}
use Rattle.og_plan.specs.declared.plan.ColPair.{ColPair}
use Rattle.og_plan.proofs.MeaningKeys.{key_told}
use Rattle.og_exec.specs.SemiKeys.{pair_step, pair_of, value_in, mixed_pair, digest, group, left_group, right_group}

-- a pair that there is not is no pair
no_pair : {A G : Type 0} (x : A) → None ≡ Some x → G
no_pair x e = cc

-- each of so many columns is INT
int_at : (n place : ℕ) → place < n → slice_get (replicate n k.Int) place ≡ Some k.Int
int_at zero place l = absurd (omega (arith, l))
int_at (suc n) zero l = refl
int_at (suc n) (suc place) l = int_at n place (omega (arith, l))

module _ (d : ℤ) (l r : Fixed) where
  -- a comparison in which a pair was found: the pair would be a key, were all columns INT
  compare_told : (op : Cmp) (left right : Expr) (pair : ColPair) → pair_step (length l) (c.Compare op left right) ≡ Some pair
      → are_equal l r pair ≡ truth d (l ++ r) (Compare op left right)
  compare_told cmp.Eq left right pair e = at (column_of left) (column_of right) refl refl e
    where
      at : (a b : Option ℕ) → column_of left ≡ a → column_of right ≡ b → across (length l) a b ≡ Some pair
          → are_equal l r pair ≡ truth d (l ++ r) (Compare cmp.Eq left right)
      at (Some a) (Some b) is other e =
          let kinds = replicate (a + b + 1) k.Int in
          let both : are_key_kinds (kind_at kinds (column_of left)) (kind_at kinds (column_of right)) ≡ true =
          ap₂ (λ p q. are_key_kinds (kind_at kinds p) (kind_at kinds q)) is other ∙ ap₂ are_key_kinds (int_at (a + b + 1) a (omega arith)) (int_at (a + b + 1) b (omega arith)) in
          key_told d kinds l r (Compare cmp.Eq left right) pair
          (fold-Compare (key_step kinds (length l)) cmp.Eq left right
          ∙ ap (λ t. if t then across (length l) (column_of left) (column_of right) else None) both
          ∙ ap₂ (across (length l)) is other
          ∙ e)
      at (Some a) None is other e = no_pair pair e
      at None b is other e = no_pair pair e
  compare_told _ left right pair e = no_pair pair e

  -- a pair says what the part says that it was found in
  pair_told : (part : Cond) (pair : ColPair) → pair_of (length l) part ≡ Some pair → are_equal l r pair ≡ truth d (l ++ r) part
  pair_told =
      let step = pair_step (length l) in
      induction-Cond (λ part. (pair : ColPair) → pair_of (length l) part ≡ Some pair → are_equal l r pair ≡ truth d (l ++ r) part)
      (λ conds each pair e. no_pair pair (sym (fold-And step conds) ∙ e))
      (λ conds each pair e. no_pair pair (sym (fold-Or step conds) ∙ e))
      (λ cond told pair e. no_pair pair (sym (fold-Not step cond) ∙ e))
      (λ op left right pair e. compare_told op left right pair (sym (fold-Compare step op left right) ∙ e))
      (λ pred left right pair e. no_pair pair (sym (fold-Relate step pred left right) ∙ e))
      (λ period pair e. no_pair pair (sym (fold-Empty step period) ∙ e))
      (λ period day pair e. no_pair pair (sym (fold-Contains step period day) ∙ e))

-- an order that equality allows is Equal
tied : (o : Ordering) → allows cmp.Eq o ≡ true → o ≡ Equal
tied Less e = cc
tied Equal e = refl
tied Greater e = cc

-- values that tie are one
one_value : (x y : FixedValue) → allows cmp.Eq (value_order x y) ≡ true → x ≡ y
one_value x y e = ap (λ row. slice_index_or row 0 x) (rows_ordered.exact (x ∷ []) (y ∷ []) (ap (λ o. ordering_then o Equal) (tied (value_order x y) e)))

-- values that are equal are one
equal_value : (x y : FixedValue) → compares cmp.Eq x y ≡ true → x ≡ y
equal_value (f.Int m) (f.Int n) e = one_value (f.Int m) (f.Int n) e
equal_value (f.Text s) (f.Text t) e = one_value (f.Text s) (f.Text t) e
equal_value (f.Date a) (f.Date b) e = one_value (f.Date a) (f.Date b) e
equal_value (f.Int m) (f.Text t) e = cc
equal_value (f.Int m) (f.Date b) e = cc
equal_value (f.Int m) (f.Period q) e = cc
equal_value (f.Text s) (f.Int n) e = cc
equal_value (f.Text s) (f.Date b) e = cc
equal_value (f.Text s) (f.Period q) e = cc
equal_value (f.Date a) (f.Int n) e = cc
equal_value (f.Date a) (f.Text t) e = cc
equal_value (f.Date a) (f.Period q) e = cc
equal_value (f.Period p) y e = cc

-- the value in a column on a day
column_on : (row : List Value) (place : ℕ) (d : ℤ) → column (row_at row d) place ≡ value_at (value_in row place) d
column_on [] place d = refl
column_on (value ∷ row) zero d = refl
column_on (value ∷ row) (suc place) d = column_on row place d

module _ (d : ℤ) (x y : List Value) where
  -- where a part holds of two rows glued, what it adds to their digests is the same
  part_digested : (part : Cond) (seed : ℕ) → truth d (row_at x d ++ row_at y d) part ≡ true
      → mixed_pair true x seed (pair_of (length x) part) ≡ mixed_pair false y seed (pair_of (length x) part)
  part_digested part seed e = at (pair_of (length x) part) refl
    where
      at : (o : Option ColPair) → pair_of (length x) part ≡ o → mixed_pair true x seed o ≡ mixed_pair false y seed o
      at (Some pair) is =
          let told = pair_told d (row_at x d) (row_at y d) part pair (ap (λ n. pair_of n part) (length-map x (λ v. value_at v d)) ∙ is) in
          values_digested seed (value_in x pair.left) (value_in y pair.right) d
          (sym (column_on x pair.left d) ∙ equal_value (column (row_at x d) pair.left) (column (row_at y d) pair.right) (told ∙ e) ∙ column_on y pair.right d)
      at None is = refl

  -- where all parts do, the digests are the same
  parts_digested : (parts : List Cond) (seed : ℕ) → all_hold d parts (row_at x d ++ row_at y d) ≡ true
      → fold (λ s part. mixed_pair true x s (pair_of (length x) part)) seed parts ≡ fold (λ s part. mixed_pair false y s (pair_of (length x) part)) seed parts
  parts_digested [] seed e = refl
  parts_digested (part ∷ parts) seed e =
      let both = and_parts (truth d (row_at x d ++ row_at y d) part) (all_hold d parts (row_at x d ++ row_at y d)) e in
      parts_digested parts (mixed_pair true x seed (pair_of (length x) part)) both.1
      ∙ ap (λ s. fold (λ t p. mixed_pair false y t (pair_of (length x) p)) s parts) (part_digested part seed both.0)

  -- the right row stands in the group that the left one seeks
  pub columns_keyed : (width : ℕ) (parts : List Cond) (g : Groups) → left_group width parts x ≡ Some g
      → all_hold d parts (row_at x d ++ row_at y d) ≡ true → share_group g (right_group width parts y) ≡ true
  columns_keyed width parts g e all = at ((length x == width) && list_any (λ part. is_some (pair_of width part)) parts) refl e
    where
      at : (b : Bool) → ((length x == width) && list_any (λ part. is_some (pair_of width part)) parts) ≡ b
          → (if b then Some (group (digest true width parts x)) else None) ≡ Some g → share_group g (right_group width parts y) ≡ true
      at true is e =
          let wide : length x ≡ width = (Decides-eqb (length x) width).0 (and_parts (length x == width) (list_any (λ part. is_some (pair_of width part)) parts) is).0 in
          let same : digest true width parts x ≡ digest false width parts y = subst (λ n. digest true n parts x ≡ digest false n parts y) wide (parts_digested parts 0 all) in
          subst (λ h. share_group h (right_group width parts y) ≡ true) (same_Some (group (digest true width parts x)) g e)
          (share-first (group (digest true width parts x)) (right_group width parts y) same)
      at false is e = no_pair g e
