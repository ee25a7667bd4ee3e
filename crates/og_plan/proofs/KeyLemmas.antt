-- The keys of a join are columns of the same kind, which is INT or TEXT.
use Rattle.std.proofs.Common.{◌≡◌, ◌<◌, ◌≤◌, ◌+◌, ◌-◌, ◌++◌, ◌&&◌, ℕ, zero, suc, nat_lt, nat_le, Bool, true, false, List, [], ◌∷◌, Option, Some, None, length, slice_get, if◌then◌else◌, refl, sym, ap, ap₂, subst, ◌∙◌, arith}
use Rattle.std.specs.List.{AllByRecursion, flat_map, list_all}
use Rattle.std.proofs.lemmas.Bool.Decides.{nat_tests}
use Rattle.std.proofs.lemmas.List.Folds.{list_all-append}
use Rattle.og_value.specs.declared.kind.Kind.{Kind}
use Rattle.og_value.specs.declared.kind.Kind.TheVariants as kind
use Rattle.og_value.specs.declared.term.Cmp.{Cmp}
use Rattle.og_value.specs.declared.term.Cmp.TheVariants as cmp
use Rattle.og_query.specs.declared.expression.Expr.{Expr}
use Rattle.og_query.specs.declared.condition.Cond.{Cond}
use Rattle.og_query.specs.declared.condition.Cond.TheOpen as c
use Rattle.og_query.proofs.Equations.{induction-Expr, induction-Cond, fold-Column, fold-Lit, fold-Call, fold-And, fold-Or, fold-Not, fold-Compare, fold-Relate, fold-Empty, fold-Contains}
use Rattle.og_plan.specs.Joins.{listed, across, are_key_kinds, kind_at, key_step, key_of}
use Rattle.og_plan.specs.Parts.{expr_places, expr_places_step, places_of, places_step, column_of, column_step}
use Rattle.og_plan.specs.Shapes.{is_key_pair}
use Rattle.og_plan.specs.declared.plan.ColPair.{ColPair}

module _ {A : Type 0} where
  -- the member at a place of the first of two lists
  slice_get-first : (xs ys : List A) (place : ℕ) → place < length xs → slice_get (xs ++ ys) place ≡ slice_get xs place
  slice_get-first [] ys place l = absurd (omega (arith, l))
  slice_get-first (x ∷ xs) ys zero l = refl
  slice_get-first (x ∷ xs) ys (suc place) l = slice_get-first xs ys place (omega (arith, l))

  -- and of the second
  slice_get-second : (xs ys : List A) (place : ℕ) → length xs ≤ place → slice_get (xs ++ ys) place ≡ slice_get ys (place - length xs)
  slice_get-second [] ys place l = ap (slice_get ys) (none place)
    where
      none : (n : ℕ) → n ≡ n - 0
      none n = omega arith
  slice_get-second (x ∷ xs) ys zero l = absurd (omega (arith, l))
  slice_get-second (x ∷ xs) ys (suc place) l = slice_get-second xs ys place (omega (arith, l)) ∙ ap (slice_get ys) (both place (length xs))
    where
      both : (m n : ℕ) → m - n ≡ suc m - suc n
      both m n = omega arith

-- two kinds are those of a key in either order
either_order : (a b : Option Kind) → are_key_kinds a b ≡ true → are_key_kinds b a ≡ true
either_order (Some kind.Int) (Some kind.Int) e = refl
either_order (Some kind.Text) (Some kind.Text) e = refl
either_order _ _ e = cc

-- what is there on a condition is there where the condition holds
there : {A : Type 0} (b : Bool) (x : Option A) (y : A) → (if b then x else None) ≡ Some y → (b ≡ true) × (x ≡ Some y)
there true x y e = (refl, e)
there false x y e = absurd (cc)

-- nothing is there, whether the condition holds or not
not_there : {A : Type 0} (b : Bool) (y : A) → (if b then None else None) ≡ Some y → ⊥
not_there true y e = cc
not_there false y e = cc

-- the kinds of an earlier item, of an item, and of later ones
module _ (front middle back : List Kind) where
  -- a column of the earlier items and one of the item are a key where their kinds are those of a key
  one_way : (a b : ℕ) → a < length front → length front ≤ b → b < length front + length middle
      → are_key_kinds (slice_get (front ++ (middle ++ back)) a) (slice_get (front ++ (middle ++ back)) b) ≡ true
      → is_key_pair (Some front) (Some middle) (record { left = a; right = b - length front }) ≡ true
  one_way a b early late within e =
      ap₂ are_key_kinds (sym (slice_get-first front (middle ++ back) a early))
      (sym (slice_get-second front (middle ++ back) b late ∙ slice_get-first middle back (b - length front) (omega (arith, late, within))))
      ∙ e

  -- what is true of one pair is true of the same pair
  same_pair : (one pair : ColPair) → Some one ≡ Some pair → is_key_pair (Some front) (Some middle) one ≡ true → is_key_pair (Some front) (Some middle) pair ≡ true
  same_pair one pair is key = subst (λ p. is_key_pair (Some front) (Some middle) p ≡ true) (cc) key

  -- two columns of the items are a key where they are across and their kinds are those of a key
  across_is_key : (a b : ℕ) (pair : ColPair) → a < length front + length middle → b < length front + length middle
      → are_key_kinds (slice_get (front ++ (middle ++ back)) a) (slice_get (front ++ (middle ++ back)) b) ≡ true
      → across (length front) (Some a) (Some b) ≡ Some pair → is_key_pair (Some front) (Some middle) pair ≡ true
  across_is_key a b pair la lb e =
      at (length front) (nat_lt a (length front)) (nat_le (length front) b) (nat_lt b (length front)) (nat_le (length front) a) refl refl refl refl
      (λ early late. one_way a b early late lb e)
      (λ early late. one_way b a early late la (either_order (slice_get (front ++ (middle ++ back)) a) (slice_get (front ++ (middle ++ back)) b) e))
    where
      at : (start : ℕ) (p q r s : Bool) → nat_lt a start ≡ p → nat_le start b ≡ q → nat_lt b start ≡ r → nat_le start a ≡ s
          → (a < start → start ≤ b → is_key_pair (Some front) (Some middle) (record { left = a; right = b - start }) ≡ true)
          → (b < start → start ≤ a → is_key_pair (Some front) (Some middle) (record { left = b; right = a - start }) ≡ true)
          → (if p && q then Some (record { left = a; right = b - start }) else (if r && s then Some (record { left = b; right = a - start }) else None)) ≡ Some pair
          → is_key_pair (Some front) (Some middle) pair ≡ true
      at start true true r s ep eq er es one other is = same_pair (record { left = a; right = b - start }) pair is (one (grind (arith, nat_tests)) (grind (arith, nat_tests)))
      at start true false true true ep eq er es one other is = same_pair (record { left = b; right = a - start }) pair is (other (grind (arith, nat_tests)) (grind (arith, nat_tests)))
      at start false q true true ep eq er es one other is = same_pair (record { left = b; right = a - start }) pair is (other (grind (arith, nat_tests)) (grind (arith, nat_tests)))
      at start true false true false ep eq er es one other is = absurd (cc)
      at start true false false s ep eq er es one other is = absurd (cc)
      at start false q true false ep eq er es one other is = absurd (cc)
      at start false q false s ep eq er es one other is = absurd (cc)

  -- where a part compares what may be columns of the items, the key is one
  columns_are_key : (x y : Option ℕ) (pair : ColPair) → ((a b : ℕ) → x ≡ Some a → y ≡ Some b → (a < length front + length middle) × (b < length front + length middle))
      → (if are_key_kinds (kind_at (front ++ (middle ++ back)) x) (kind_at (front ++ (middle ++ back)) y) then across (length front) x y else None) ≡ Some pair
      → is_key_pair (Some front) (Some middle) pair ≡ true
  columns_are_key (Some a) (Some b) pair within e =
      let key = there (are_key_kinds (slice_get (front ++ (middle ++ back)) a) (slice_get (front ++ (middle ++ back)) b)) (across (length front) (Some a) (Some b)) pair e in
      let both = within a b refl refl in
      across_is_key a b pair both.0 both.1 key.0 key.1
  columns_are_key (Some a) None pair within e = absurd (not_there (are_key_kinds (slice_get (front ++ (middle ++ back)) a) None) pair e)
  columns_are_key None y pair within e = absurd (cc)

-- the place of an expression that is a column is the only one that it names
column_place : (expr : Expr) (place : ℕ) → column_of expr ≡ Some place → expr_places expr ≡ place ∷ []
column_place =
    induction-Expr (λ expr. (place : ℕ) → column_of expr ≡ Some place → expr_places expr ≡ place ∷ [])
    (λ n place e. fold-Column expr_places_step n ∙ one n place (sym (fold-Column column_step n) ∙ e))
    (λ value place e. absurd (none place (sym (fold-Lit column_step value) ∙ e)))
    (λ func args each place e. absurd (none place (sym (fold-Call column_step func args) ∙ e)))
  where
    one : (n place : ℕ) → Some n ≡ Some place → n ∷ [] ≡ place ∷ []
    one n place e = cc

    none : (place : ℕ) → None ≡ Some place → ⊥
    none place e = cc

-- a part that names columns of the items alone
module _ (front middle back : List Kind) where
  -- the key of a part is one, where it names columns of the items alone
  abbrev IsKey : Cond → Type 0
  IsKey part =
      AllByRecursion (λ place. place < length front + length middle) (places_of part) → (pair : ColPair)
      → key_of (front ++ (middle ++ back)) (length front) part ≡ Some pair → is_key_pair (Some front) (Some middle) pair ≡ true

  -- what is not there is no key
  no_key : (pair : ColPair) → None ≡ Some pair → is_key_pair (Some front) (Some middle) pair ≡ true
  no_key pair e = absurd (cc)

  -- of two expressions that are compared
  compared_are_key : (op : Cmp) (left right : Expr) (pair : ColPair) → AllByRecursion (λ place. place < length front + length middle) (expr_places left ++ expr_places right)
      → key_step (front ++ (middle ++ back)) (length front) (c.Compare op left right) ≡ Some pair → is_key_pair (Some front) (Some middle) pair ≡ true
  compared_are_key cmp.Eq left right pair within e =
      columns_are_key front middle back (column_of left) (column_of right) pair
      (λ a b is_a is_b.
      let two = subst (AllByRecursion (λ place. place < length front + length middle)) (ap₂ (λ xs ys. xs ++ ys) (column_place left a is_a) (column_place right b is_b)) within in
      (two.0, two.1.0))
      e
  compared_are_key _ left right pair within e = no_key pair e

  -- of any part
  part_is_key : (part : Cond) → IsKey part
  part_is_key =
      let step = key_step (front ++ (middle ++ back)) (length front) in
      induction-Cond IsKey
      (λ conds each within pair e. no_key pair (sym (fold-And step conds) ∙ e))
      (λ conds each within pair e. no_key pair (sym (fold-Or step conds) ∙ e))
      (λ cond is within pair e. no_key pair (sym (fold-Not step cond) ∙ e))
      (λ op left right within pair e.
      compared_are_key op left right pair (subst (AllByRecursion (λ place. place < length front + length middle)) (fold-Compare places_step op left right) within)
      (sym (fold-Compare step op left right) ∙ e))
      (λ pred left right within pair e. no_key pair (sym (fold-Relate step pred left right) ∙ e))
      (λ period within pair e. no_key pair (sym (fold-Empty step period) ∙ e))
      (λ period day within pair e. no_key pair (sym (fold-Contains step period day) ∙ e))

  -- a key that is there is such
  listed_is_key : (key : Option ColPair) → ((pair : ColPair) → key ≡ Some pair → is_key_pair (Some front) (Some middle) pair ≡ true)
      → list_all (is_key_pair (Some front) (Some middle)) (listed key) ≡ true
  listed_is_key (Some pair) is = ap (λ b. b && true) (is pair refl)
  listed_is_key None is = refl

  -- the keys of parts that name columns of the items alone are keys
  pub parts_are_keys : (parts : List Cond) → AllByRecursion (λ part. AllByRecursion (λ place. place < length front + length middle) (places_of part)) parts
      → list_all (is_key_pair (Some front) (Some middle)) (flat_map (λ part. listed (key_of (front ++ (middle ++ back)) (length front) part)) parts) ≡ true
  parts_are_keys [] within = refl
  parts_are_keys (part ∷ parts) within =
      let key = key_of (front ++ (middle ++ back)) (length front) in
      list_all-append (is_key_pair (Some front) (Some middle)) (listed (key part)) (flat_map (λ part. listed (key part)) parts)
      ∙ ap₂ (λ x y. x && y) (listed_is_key (key part) (part_is_key part within.0)) (parts_are_keys parts within.1)
