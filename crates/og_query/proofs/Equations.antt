-- The equations of the folds over expressions and conditions, one for each variant, and the inductions over both.
use Rattle.std.proofs.Common.{◌≡◌, ◌&&◌, ℕ, ℤ, true, not, List, [], ◌∷◌, Some, map, slice_get, slice_index_or, ap, sym, subst, ◌∙◌}
use Rattle.std.specs.List.{AllByRecursion, list_all, list_any}
use Rattle.std.proofs.lemmas.List.Folds.{list_all-map}
use Rattle.og_base.proofs.SetMembers.{list_any-map}
use Rattle.og_value.specs.Cells.{kind_of}
use Rattle.og_value.specs.Values.{value_at}
use Rattle.og_value.specs.declared.kind.Kind.{Kind}
use Rattle.og_value.specs.declared.term.Cmp.{Cmp}
use Rattle.og_value.specs.declared.term.Func.{Func}
use Rattle.og_value.specs.declared.term.Pred.{Pred}
use Rattle.og_value.specs.declared.value.FixedValue.{FixedValue}
use Rattle.og_value.specs.declared.value.Value.{Value}
use Rattle.og_query.specs.Conditions.{compares, relates, is_empty, contains, truth, truth_step}
use Rattle.og_query.specs.Expressions.{no_value, call_of, meaning, value_step}
use Rattle.og_query.specs.Kinds.{all_kinds, call_kind_of, kind_in, kind_step, are_comparable, is_date, is_period, fits, fit_step}
use Rattle.og_value.specs.Steady.{is_steady_value}
use Rattle.og_query.specs.Steady.{is_steady_expr, is_steady_cond, steady_step, steady_part}
use Rattle.og_query.specs.declared.expression.Expr.{Expr, fold-Expr, fold-roll-Expr, ind-Expr, map-Expr, roll-Expr}
use Rattle.og_query.specs.declared.expression.Expr.TheVariants.{Column, Lit, Call, rolls-Column, rolls-Lit, rolls-Call}
use Rattle.og_query.specs.declared.expression.Expr.TheOpen as e
use Rattle.og_query.specs.declared.condition.Cond.{Cond, fold-Cond, fold-roll-Cond, ind-Cond, map-Cond, roll-Cond}
use Rattle.og_query.specs.declared.condition.Cond.TheVariants.{And, Or, Not, Compare, Relate, Empty, Contains, rolls-And, rolls-Or, rolls-Not, rolls-Compare, rolls-Relate, rolls-Empty, rolls-Contains}
use Rattle.og_query.specs.declared.condition.Cond.TheOpen as c

-- what holds of each of some things with a proof beside them
pub each_of : {A : Type 0} (P : A → Type 0) (xs : List ((x : A) × P x)) → AllByRecursion P (map (λ e. e.0) xs)
each_of P [] = tt
each_of P (x ∷ xs) = (x.1, each_of P xs)

-- induction over expressions: what holds of columns and literals, and of each call of whose arguments it holds, holds of all
pub induction-Expr : (P : Expr → Type 0)
    → ((place : ℕ) → P (Column place)) → ((value : Value) → P (Lit value)) → ((func : Func) (args : List Expr) → AllByRecursion P args → P (Call func args))
    → (expr : Expr) → P expr
induction-Expr P column lit call = ind-Expr P (λ x y is. subst (λ z. P (roll-Expr z)) is (at y))
  where
    at : (y : e.Expr-F ((expr : Expr) × P expr)) → P (roll-Expr (map-Expr ((expr : Expr) × P expr) Expr (λ x. x.0) y))
    at (e.Column place) = subst P (sym (rolls-Column place)) (column place)
    at (e.Lit value) = subst P (sym (rolls-Lit value)) (lit value)
    at (e.Call func args) = subst P (sym (rolls-Call func (map (λ x. x.0) args))) (call func (map (λ x. x.0) args) (each_of P args))

-- induction over conditions: what holds of each that has no condition in it, and of each of whose conditions it holds, holds of all
pub induction-Cond : (P : Cond → Type 0)
    → ((conds : List Cond) → AllByRecursion P conds → P (And conds)) → ((conds : List Cond) → AllByRecursion P conds → P (Or conds)) → ((cond : Cond) → P cond → P (Not cond))
    → ((op : Cmp) (left right : Expr) → P (Compare op left right)) → ((pred : Pred) (left right : Expr) → P (Relate pred left right))
    → ((period : Expr) → P (Empty period)) → ((period day : Expr) → P (Contains period day)) → (cond : Cond) → P cond
induction-Cond P and or not compare relate empty contains = ind-Cond P (λ x y is. subst (λ z. P (roll-Cond z)) is (at y))
  where
    at : (y : c.Cond-F ((cond : Cond) × P cond)) → P (roll-Cond (map-Cond ((cond : Cond) × P cond) Cond (λ x. x.0) y))
    at (c.And conds) = subst P (sym (rolls-And (map (λ x. x.0) conds))) (and (map (λ x. x.0) conds) (each_of P conds))
    at (c.Or conds) = subst P (sym (rolls-Or (map (λ x. x.0) conds))) (or (map (λ x. x.0) conds) (each_of P conds))
    at (c.Not cond) = subst P (sym (rolls-Not cond.0)) (not cond.0 cond.1)
    at (c.Compare op left right) = subst P (sym (rolls-Compare op left right)) (compare op left right)
    at (c.Relate pred left right) = subst P (sym (rolls-Relate pred left right)) (relate pred left right)
    at (c.Empty period) = subst P (sym (rolls-Empty period)) (empty period)
    at (c.Contains period day) = subst P (sym (rolls-Contains period day)) (contains period day)

-- a fold over expressions
module _ {A : Type 0} (step : e.Expr-F A → A) where
  -- of a column
  pub fold-Column : (place : ℕ) → fold-Expr A step (Column place) ≡ step (e.Column place)
  fold-Column place = ap (fold-Expr A step) (sym (rolls-Column place)) ∙ fold-roll-Expr A step (e.Column place)

  -- of a literal
  pub fold-Lit : (value : Value) → fold-Expr A step (Lit value) ≡ step (e.Lit value)
  fold-Lit value = ap (fold-Expr A step) (sym (rolls-Lit value)) ∙ fold-roll-Expr A step (e.Lit value)

  -- of a call
  pub fold-Call : (func : Func) (args : List Expr) → fold-Expr A step (Call func args) ≡ step (e.Call func (map (fold-Expr A step) args))
  fold-Call func args = ap (fold-Expr A step) (sym (rolls-Call func args)) ∙ fold-roll-Expr A step (e.Call func args)

-- a fold over conditions
module _ {A : Type 0} (step : c.Cond-F A → A) where
  -- of AND
  pub fold-And : (parts : List Cond) → fold-Cond A step (And parts) ≡ step (c.And (map (fold-Cond A step) parts))
  fold-And parts = ap (fold-Cond A step) (sym (rolls-And parts)) ∙ fold-roll-Cond A step (c.And parts)

  -- of OR
  pub fold-Or : (parts : List Cond) → fold-Cond A step (Or parts) ≡ step (c.Or (map (fold-Cond A step) parts))
  fold-Or parts = ap (fold-Cond A step) (sym (rolls-Or parts)) ∙ fold-roll-Cond A step (c.Or parts)

  -- of NOT
  pub fold-Not : (part : Cond) → fold-Cond A step (Not part) ≡ step (c.Not (fold-Cond A step part))
  fold-Not part = ap (fold-Cond A step) (sym (rolls-Not part)) ∙ fold-roll-Cond A step (c.Not part)

  -- of a comparison
  pub fold-Compare : (op : Cmp) (left right : Expr) → fold-Cond A step (Compare op left right) ≡ step (c.Compare op left right)
  fold-Compare op left right = ap (fold-Cond A step) (sym (rolls-Compare op left right)) ∙ fold-roll-Cond A step (c.Compare op left right)

  -- of a predicate
  pub fold-Relate : (pred : Pred) (left right : Expr) → fold-Cond A step (Relate pred left right) ≡ step (c.Relate pred left right)
  fold-Relate pred left right = ap (fold-Cond A step) (sym (rolls-Relate pred left right)) ∙ fold-roll-Cond A step (c.Relate pred left right)

  -- of EMPTY
  pub fold-Empty : (period : Expr) → fold-Cond A step (Empty period) ≡ step (c.Empty period)
  fold-Empty period = ap (fold-Cond A step) (sym (rolls-Empty period)) ∙ fold-roll-Cond A step (c.Empty period)

  -- of CONTAINS
  pub fold-Contains : (period day : Expr) → fold-Cond A step (Contains period day) ≡ step (c.Contains period day)
  fold-Contains period day = ap (fold-Cond A step) (sym (rolls-Contains period day)) ∙ fold-roll-Cond A step (c.Contains period day)

-- the value of an expression
module _ (d : ℤ) (row : List FixedValue) where
  -- of a column
  pub meaning-Column : (place : ℕ) → meaning d row (Column place) ≡ slice_index_or row place no_value
  meaning-Column = fold-Column (value_step d row)

  -- of a literal
  pub meaning-Lit : (value : Value) → meaning d row (Lit value) ≡ value_at value d
  meaning-Lit = fold-Lit (value_step d row)

  -- of a call
  pub meaning-Call : (func : Func) (args : List Expr) → meaning d row (Call func args) ≡ call_of func (map (meaning d row) args)
  meaning-Call = fold-Call (value_step d row)

-- the truth of a condition
module _ (d : ℤ) (row : List FixedValue) where
  -- of AND
  pub truth-And : (parts : List Cond) → truth d row (And parts) ≡ list_all (truth d row) parts
  truth-And parts = fold-And (truth_step d row) parts ∙ list_all-map (λ part. part) (truth d row) parts

  -- of OR
  pub truth-Or : (parts : List Cond) → truth d row (Or parts) ≡ list_any (truth d row) parts
  truth-Or parts = fold-Or (truth_step d row) parts ∙ list_any-map (λ part. part) (truth d row) parts

  -- of NOT
  pub truth-Not : (part : Cond) → truth d row (Not part) ≡ not (truth d row part)
  truth-Not = fold-Not (truth_step d row)

  -- of a comparison
  pub truth-Compare : (op : Cmp) (left right : Expr) → truth d row (Compare op left right) ≡ compares op (meaning d row left) (meaning d row right)
  truth-Compare = fold-Compare (truth_step d row)

  -- of a predicate
  pub truth-Relate : (pred : Pred) (left right : Expr) → truth d row (Relate pred left right) ≡ relates pred (meaning d row left) (meaning d row right)
  truth-Relate = fold-Relate (truth_step d row)

  -- of EMPTY
  pub truth-Empty : (period : Expr) → truth d row (Empty period) ≡ is_empty (meaning d row period)
  truth-Empty = fold-Empty (truth_step d row)

  -- of CONTAINS
  pub truth-Contains : (period day : Expr) → truth d row (Contains period day) ≡ contains (meaning d row period) (meaning d row day)
  truth-Contains = fold-Contains (truth_step d row)

-- the kind of an expression
module _ (kinds : List Kind) where
  -- of a column
  pub kind_in-Column : (place : ℕ) → kind_in kinds (Column place) ≡ slice_get kinds place
  kind_in-Column = fold-Column (kind_step kinds)

  -- of a literal
  pub kind_in-Lit : (value : Value) → kind_in kinds (Lit value) ≡ Some (kind_of value)
  kind_in-Lit = fold-Lit (kind_step kinds)

  -- of a call
  pub kind_in-Call : (func : Func) (args : List Expr) → kind_in kinds (Call func args) ≡ call_kind_of func (all_kinds (map (kind_in kinds) args))
  kind_in-Call = fold-Call (kind_step kinds)

-- whether a condition fits the kinds of a row
module _ (kinds : List Kind) where
  -- of AND
  pub fits-And : (parts : List Cond) → fits kinds (And parts) ≡ list_all (fits kinds) parts
  fits-And parts = fold-And (fit_step kinds) parts ∙ list_all-map (λ part. part) (fits kinds) parts

  -- of OR
  pub fits-Or : (parts : List Cond) → fits kinds (Or parts) ≡ list_all (fits kinds) parts
  fits-Or parts = fold-Or (fit_step kinds) parts ∙ list_all-map (λ part. part) (fits kinds) parts

  -- of NOT
  pub fits-Not : (part : Cond) → fits kinds (Not part) ≡ fits kinds part
  fits-Not = fold-Not (fit_step kinds)

  -- of a comparison
  pub fits-Compare : (op : Cmp) (left right : Expr) → fits kinds (Compare op left right) ≡ are_comparable (kind_in kinds left) (kind_in kinds right)
  fits-Compare = fold-Compare (fit_step kinds)

  -- of a predicate
  pub fits-Relate : (pred : Pred) (left right : Expr) → fits kinds (Relate pred left right) ≡ (is_period (kind_in kinds left) && is_period (kind_in kinds right))
  fits-Relate = fold-Relate (fit_step kinds)

  -- of EMPTY
  pub fits-Empty : (period : Expr) → fits kinds (Empty period) ≡ is_period (kind_in kinds period)
  fits-Empty = fold-Empty (fit_step kinds)

  -- of CONTAINS
  pub fits-Contains : (period day : Expr) → fits kinds (Contains period day) ≡ (is_period (kind_in kinds period) && is_date (kind_in kinds day))
  fits-Contains = fold-Contains (fit_step kinds)

-- whether an expression is the same on all days: of a column
pub is_steady-Column : (place : ℕ) → is_steady_expr (Column place) ≡ true
is_steady-Column = fold-Column steady_step

-- of a literal
pub is_steady-Lit : (value : Value) → is_steady_expr (Lit value) ≡ is_steady_value value
is_steady-Lit = fold-Lit steady_step

-- of a call
pub is_steady-Call : (func : Func) (args : List Expr) → is_steady_expr (Call func args) ≡ list_all is_steady_expr args
is_steady-Call func args = fold-Call steady_step func args ∙ list_all-map (λ arg. arg) is_steady_expr args

-- whether a condition is the same on all days: of AND
pub is_steady-And : (parts : List Cond) → is_steady_cond (And parts) ≡ list_all is_steady_cond parts
is_steady-And parts = fold-And steady_part parts ∙ list_all-map (λ part. part) is_steady_cond parts

-- of OR
pub is_steady-Or : (parts : List Cond) → is_steady_cond (Or parts) ≡ list_all is_steady_cond parts
is_steady-Or parts = fold-Or steady_part parts ∙ list_all-map (λ part. part) is_steady_cond parts

-- of NOT
pub is_steady-Not : (part : Cond) → is_steady_cond (Not part) ≡ is_steady_cond part
is_steady-Not = fold-Not steady_part

-- of a comparison
pub is_steady-Compare : (op : Cmp) (left right : Expr) → is_steady_cond (Compare op left right) ≡ (is_steady_expr left && is_steady_expr right)
is_steady-Compare = fold-Compare steady_part

-- of a predicate
pub is_steady-Relate : (pred : Pred) (left right : Expr) → is_steady_cond (Relate pred left right) ≡ (is_steady_expr left && is_steady_expr right)
is_steady-Relate = fold-Relate steady_part

-- of EMPTY
pub is_steady-Empty : (period : Expr) → is_steady_cond (Empty period) ≡ is_steady_expr period
is_steady-Empty = fold-Empty steady_part

-- of CONTAINS
pub is_steady-Contains : (period day : Expr) → is_steady_cond (Contains period day) ≡ (is_steady_expr period && is_steady_expr day)
is_steady-Contains = fold-Contains steady_part

-- the equations of the meanings, for rewriting
pub ruleset meaning_equations = (meaning-Column, meaning-Lit, meaning-Call, truth-And, truth-Or, truth-Not, truth-Compare, truth-Relate, truth-Empty, truth-Contains)

-- the equations of the kinds, for rewriting
pub ruleset kind_equations = (kind_in-Column, kind_in-Lit, kind_in-Call, fits-And, fits-Or, fits-Not, fits-Compare, fits-Relate, fits-Empty, fits-Contains)

-- the equations of steadiness, for rewriting
pub ruleset steady_equations = (is_steady-Column, is_steady-Lit, is_steady-Call, is_steady-And, is_steady-Or, is_steady-Not, is_steady-Compare, is_steady-Relate, is_steady-Empty, is_steady-Contains)
