-- Where a row tells that a condition may not hold of it, the condition holds on no day.
use Rattle.std.proofs.Common.{◌≡◌, ◌≤ℤ◌, ℕ, ℤ, Bool, true, false, true≢false, List, [], ◌∷◌, Option, Some, None, slice_get, sym, ap, ap₂, refl, ◌∙◌, arith}
use Rattle.std.proofs.lemmas.Int.{ints}
use Rattle.std.proofs.lemmas.List.Folds.{list_all-map}
use Rattle.std.proofs.lemmas.Option.{none-some, same_Some}
use Rattle.std.specs.List.{AllByRecursion, list_all, list_any}
use Rattle.og_base.specs.declared.range.FixedPeriod.{FixedPeriod}
use Rattle.og_base.proofs.SetMembers.{list_any-map}
use Rattle.og_time.specs.FixedOperations.{least_of, greatest_of}
use Rattle.og_time.specs.Period.{period_at}
use Rattle.og_time.specs.Point.{Point, point_at}
use Rattle.og_value.specs.Values.{value_at, row_at}
use Rattle.og_value.specs.declared.term.Cmp.{Cmp}
use Rattle.og_value.specs.declared.term.Func.{Func}
use Rattle.og_value.specs.declared.term.Pred.{Pred}
use Rattle.og_value.specs.declared.term.Pred.TheVariants.{Before, Meets, Overlaps, Starts, Finishes, During, Equals}
use Rattle.og_value.specs.declared.value.FixedValue.{FixedValue}
use Rattle.og_value.specs.declared.value.Value.{Value}
use Rattle.og_value.specs.declared.value.Value.TheVariants as v
use Rattle.og_query.specs.Conditions.{compares, relates, relation_of, truth}
use Rattle.og_query.specs.Expressions.{meaning}
use Rattle.og_query.specs.declared.condition.Cond.{Cond}
use Rattle.og_query.specs.declared.condition.Cond.TheVariants as c
use Rattle.og_query.specs.declared.expression.Expr.{Expr}
use Rattle.og_query.specs.declared.expression.Expr.TheVariants as e
use Rattle.og_query.proofs.Equations.{fold-Column, fold-Lit, fold-Call, fold-And, fold-Or, fold-Not, fold-Compare, fold-Relate, fold-Empty, fold-Contains, induction-Cond, induction-Expr, meaning-Column, meaning-Lit, truth-And, truth-Or, truth-Compare, truth-Relate}
use Rattle.og_expr.specs.Bounds.{known, known_step, may_compare, may_hold, may_relate, may_stand, may_step, outer, unless_known}
use Rattle.og_expr.proofs.ColumnLemmas.{some_value}

-- what a row tells of expressions and of conditions
module _ (row : List Value) where
  -- of a column
  pub known-Column : (place : ℕ) → known row (e.Column place) ≡ slice_get row place
  known-Column = fold-Column (known_step row)

  -- of a literal
  pub known-Lit : (value : Value) → known row (e.Lit value) ≡ Some value
  known-Lit = fold-Lit (known_step row)

  -- of a call
  pub known-Call : (func : Func) (args : List Expr) → known row (e.Call func args) ≡ None
  known-Call = fold-Call (known_step row)

  -- of AND
  pub may_hold-And : (parts : List Cond) → may_hold row (c.And parts) ≡ list_all (may_hold row) parts
  may_hold-And parts = fold-And (may_step row) parts ∙ list_all-map (λ part. part) (may_hold row) parts

  -- of OR
  pub may_hold-Or : (parts : List Cond) → may_hold row (c.Or parts) ≡ list_any (may_hold row) parts
  may_hold-Or parts = fold-Or (may_step row) parts ∙ list_any-map (λ part. part) (may_hold row) parts

  -- of NOT
  pub may_hold-Not : (part : Cond) → may_hold row (c.Not part) ≡ true
  may_hold-Not = fold-Not (may_step row)

  -- of a comparison
  pub may_hold-Compare : (op : Cmp) (left right : Expr) → may_hold row (c.Compare op left right) ≡ unless_known (may_compare op) (known row left) (known row right)
  may_hold-Compare = fold-Compare (may_step row)

  -- of a comparison of a column with a number
  pub may_hold-number : (op : Cmp) (place : ℕ) (n : ℤ) → may_hold row (c.Compare op (e.Column place) (e.Lit (v.Int n))) ≡ unless_known (may_compare op) (slice_get row place) (Some (v.Int n))
  may_hold-number op place n = may_hold-Compare op (e.Column place) (e.Lit (v.Int n)) ∙ ap₂ (unless_known (may_compare op)) (known-Column place) (known-Lit (v.Int n))

  -- of a predicate
  pub may_hold-Relate : (pred : Pred) (left right : Expr) → may_hold row (c.Relate pred left right) ≡ unless_known (may_relate pred) (known row left) (known row right)
  may_hold-Relate = fold-Relate (may_step row)

  -- of EMPTY
  pub may_hold-Empty : (period : Expr) → may_hold row (c.Empty period) ≡ true
  may_hold-Empty = fold-Empty (may_step row)

  -- of CONTAINS
  pub may_hold-Contains : (period day : Expr) → may_hold row (c.Contains period day) ≡ true
  may_hold-Contains = fold-Contains (may_step row)

-- a point lies on each day between its ends
pub from_least : (p : Point) (d : ℤ) → least_of p.low p.high ≤ℤ point_at p d
from_least p d = grind (arith, ints)

pub to_greatest : (p : Point) (d : ℤ) → point_at p d ≤ℤ greatest_of p.low p.high
to_greatest p d = grind (arith, ints)

-- periods inside two that may not stand so do not
module _ (first second p q : FixedPeriod) (a : first.start ≤ℤ p.start) (b : p.end ≤ℤ first.end) (e : second.start ≤ℤ q.start) (f : q.end ≤ℤ second.end) where
  pub stand_in : (pred : Pred) → may_stand pred first second ≡ false → relation_of pred p q ≡ false
  stand_in Before never = grind (arith, ints, a, b, e, f, never)
  stand_in Meets never = grind (arith, ints, a, b, e, f, never)
  stand_in Overlaps never = grind (arith, ints, a, b, e, f, never)
  stand_in Starts never = grind (arith, ints, a, b, e, f, never)
  stand_in Finishes never = grind (arith, ints, a, b, e, f, never)
  stand_in During never = grind (arith, ints, a, b, e, f, never)
  stand_in Equals never = grind (arith, ints, a, b, e, f, never)

-- values that may not compare so do on no day
compare_on : (op : Cmp) (d : ℤ) (x y : Value) → may_compare op x y ≡ false → compares op (value_at x d) (value_at y d) ≡ false
compare_on op d (v.Int m) (v.Int n) never = never
compare_on op d (v.Text s) (v.Text t) never = never
compare_on op d (v.Point p) (v.Point q) never = absurd (true≢false never)
compare_on op d (v.Period i) y never = refl
compare_on op d (v.Int m) y never = refl
compare_on op d (v.Text s) y never = refl
compare_on op d (v.Point p) y never = refl

-- values that may not be periods in this relation are on no day
relate_on : (pred : Pred) (d : ℤ) (x y : Value) → may_relate pred x y ≡ false → relates pred (value_at x d) (value_at y d) ≡ false
relate_on pred d (v.Period i) (v.Period j) never =
    stand_in (outer i) (outer j) (period_at i d) (period_at j d) (from_least i.start d) (to_greatest i.end d) (from_least j.start d) (to_greatest j.end d) pred never
relate_on pred d (v.Period i) y never = refl
relate_on pred d (v.Int m) y never = refl
relate_on pred d (v.Text s) y never = refl
relate_on pred d (v.Point p) y never = refl

-- where a test of some things fails, another fails of each of which the one does
all_fail : {A : Type 0} (p q : A → Bool) (xs : List A) → AllByRecursion (λ x. p x ≡ false → q x ≡ false) xs → list_all p xs ≡ false → list_all q xs ≡ false
all_fail p q [] each never = never
all_fail p q (x ∷ xs) each never = grind (arith, never, each.0, all_fail p q xs each.1)

any_fail : {A : Type 0} (p q : A → Bool) (xs : List A) → AllByRecursion (λ x. p x ≡ false → q x ≡ false) xs → list_any p xs ≡ false → list_any q xs ≡ false
any_fail p q [] each never = never
any_fail p q (x ∷ xs) each never = grind (arith, never, each.0, any_fail p q xs each.1)

module _ (row : List Value) (d : ℤ) where
  -- the value that a row tells of an expression is what the expression is on each day
  known_is : (expr : Expr) (value : Value) → known row expr ≡ Some value → value_at value d ≡ meaning d (row_at row d) expr
  known_is =
      induction-Expr (λ expr. (value : Value) → known row expr ≡ Some value → value_at value d ≡ meaning d (row_at row d) expr)
      (λ place value is. some_value row place d value (sym (known-Column row place) ∙ is) ∙ sym (meaning-Column d (row_at row d) place))
      (λ one value is. ap (λ x. value_at x d) (same_Some value one (sym is ∙ known-Lit row one)) ∙ sym (meaning-Lit d (row_at row d) one))
      (λ func args each value is. absurd (none-some value (sym (known-Call row func args) ∙ is)))

  -- a test of two expressions that fails where both are told fails of what they are on the day
  unless : (test : Value → Value → Bool) (left right : Expr) (holds : FixedValue → FixedValue → Bool)
      → ((x y : Value) → test x y ≡ false → holds (value_at x d) (value_at y d) ≡ false)
      → unless_known test (known row left) (known row right) ≡ false → holds (meaning d (row_at row d) left) (meaning d (row_at row d) right) ≡ false
  unless test left right holds fails = at (known row left) (known row right) refl refl
    where
      at : (m n : Option Value) → known row left ≡ m → known row right ≡ n → unless_known test m n ≡ false
          → holds (meaning d (row_at row d) left) (meaning d (row_at row d) right) ≡ false
      at (Some x) (Some y) m n never = ap₂ holds (sym (known_is left x m)) (sym (known_is right y n)) ∙ fails x y never
      at (Some x) None m n never = absurd (true≢false never)
      at None n _ _ never = absurd (true≢false never)

  -- a condition that may not hold of the row holds of it on no day
  pub never_holds : (cond : Cond) → may_hold row cond ≡ false → truth d (row_at row d) cond ≡ false
  never_holds =
      induction-Cond (λ cond. may_hold row cond ≡ false → truth d (row_at row d) cond ≡ false)
      (λ parts each never. truth-And d (row_at row d) parts ∙ all_fail (may_hold row) (truth d (row_at row d)) parts each (sym (may_hold-And row parts) ∙ never))
      (λ parts each never. truth-Or d (row_at row d) parts ∙ any_fail (may_hold row) (truth d (row_at row d)) parts each (sym (may_hold-Or row parts) ∙ never))
      (λ part _ never. absurd (true≢false (sym (may_hold-Not row part) ∙ never)))
      (λ op left right never. truth-Compare d (row_at row d) op left right ∙ unless (may_compare op) left right (compares op) (compare_on op d) (sym (may_hold-Compare row op left right) ∙ never))
      (λ pred left right never. truth-Relate d (row_at row d) pred left right ∙ unless (may_relate pred) left right (relates pred) (relate_on pred d) (sym (may_hold-Relate row pred left right) ∙ never))
      (λ period never. absurd (true≢false (sym (may_hold-Empty row period) ∙ never)))
      (λ period day never. absurd (true≢false (sym (may_hold-Contains row period day) ∙ never)))

  -- and all of some conditions hold of it on no day where not all may
  pub never_all : (parts : List Cond) → list_all (may_hold row) parts ≡ false → list_all (truth d (row_at row d)) parts ≡ false
  never_all parts never = sym (truth-And d (row_at row d) parts) ∙ never_holds (c.And parts) (may_hold-And row parts ∙ never)
