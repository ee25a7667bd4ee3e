-- Expressions and conditions that are checked fit the kinds of the columns in sight.
use Rattle.std.proofs.Common.{◌≡◌, ◌&&◌, ℕ, true, List, [], ◌∷◌, Option, Some, None, Ok, map, slice_get, refl, ap, sym, subst, ◌∙◌}
use Rattle.std.specs.List.{AllByRecursion, list_all}
use Rattle.og_value.specs.Cells.{kind_of}
use Rattle.og_value.specs.declared.kind.Kind.{Kind}
use Rattle.og_value.specs.declared.kind.Kind.TheVariants as k
use Rattle.og_value.specs.declared.term.Cmp.{Cmp}
use Rattle.og_value.specs.declared.term.Func.{Func}
use Rattle.og_value.specs.declared.term.Func.TheVariants as func
use Rattle.og_value.specs.declared.term.Pred.{Pred}
use Rattle.og_value.specs.declared.value.Value.{Value}
use Rattle.og_syntax.specs.declared.tree.ExprText.{ExprText, ind-ExprText, map-ExprText, roll-ExprText}
use Rattle.og_syntax.specs.declared.tree.ExprText.TheVariants as x
use Rattle.og_syntax.specs.declared.tree.ExprText.TheOpen as xo
use Rattle.og_syntax.specs.declared.tree.CondText.{CondText, ind-CondText, map-CondText, roll-CondText}
use Rattle.og_syntax.specs.declared.tree.CondText.TheVariants as y
use Rattle.og_syntax.specs.declared.tree.CondText.TheOpen as yo
use Rattle.og_query.specs.Kinds.{call_kind, call_kind_of, all_kinds, with_kind, kind_in, are_comparable, is_date, is_period, fits}
use Rattle.og_query.specs.declared.expression.Expr.TheVariants as e
use Rattle.og_query.specs.declared.condition.Cond.{Cond}
use Rattle.og_query.specs.declared.condition.Cond.TheVariants as c
use Rattle.og_query.proofs.Equations.{kind_in-Column, kind_in-Lit, kind_in-Call, fits-And, fits-Or, fits-Not, fits-Compare, fits-Relate, fits-Empty, fits-Contains}
use Rattle.og_check.specs.Steps.{◌>>=◌, ◌>>◌, pure, in_order, agree, same_kind}
use Rattle.og_check.specs.Sight.{Sight, Found, found}
use Rattle.og_check.specs.Expressions.{Kinded, wanted, given, call_of, expr_of, comparable, cond_of, conds_of, where_of}
use Rattle.og_check.proofs.ExpressionRules.{expr_of-Column, expr_of-Lit, expr_of-Call, cond_of-And, cond_of-Or, cond_of-Not, cond_of-Compare, cond_of-Relate, cond_of-Empty, cond_of-Contains}
use Rattle.og_check.proofs.OkLemmas.{not_ok, ok_same, where_ok, same_is, agree_are}

-- what holds of each of some things with a proof beside them
each_of : {A : Type 0} (P : A → Type 0) (xs : List ((x : A) × P x)) → AllByRecursion P (map (λ e. e.0) xs)
each_of P [] = tt
each_of P (x ∷ xs) = (x.1, each_of P xs)

-- induction over expressions as they are written
pub induction-ExprText : (P : ExprText → Type 0) → ((table : Option (List ℕ)) (name : List ℕ) → P (x.Column table name)) → ((value : Value) → P (x.Lit value))
    → ((func : Func) (args : List ExprText) → AllByRecursion P args → P (x.Call func args)) → (expr : ExprText) → P expr
induction-ExprText P column lit call = ind-ExprText P (λ x y is. subst (λ z. P (roll-ExprText z)) is (at y))
  where
    at : (y : xo.ExprText-F ((expr : ExprText) × P expr)) → P (roll-ExprText (map-ExprText ((expr : ExprText) × P expr) ExprText (λ x. x.0) y))
    at (xo.Column table name) = subst P (sym (x.rolls-Column table name)) (column table name)
    at (xo.Lit value) = subst P (sym (x.rolls-Lit value)) (lit value)
    at (xo.Call func args) = subst P (sym (x.rolls-Call func (map (λ x. x.0) args))) (call func (map (λ x. x.0) args) (each_of P args))

-- induction over conditions as they are written
pub induction-CondText : (P : CondText → Type 0)
    → ((parts : List CondText) → AllByRecursion P parts → P (y.And parts)) → ((parts : List CondText) → AllByRecursion P parts → P (y.Or parts)) → ((part : CondText) → P part → P (y.Not part))
    → ((op : Cmp) (left right : ExprText) → P (y.Compare op left right)) → ((pred : Pred) (left right : ExprText) → P (y.Relate pred left right))
    → ((period : ExprText) → P (y.Empty period)) → ((period day : ExprText) → P (y.Contains period day)) → (cond : CondText) → P cond
induction-CondText P and or not compare relate empty contains = ind-CondText P (λ x y is. subst (λ z. P (roll-CondText z)) is (at y))
  where
    at : (y : yo.CondText-F ((cond : CondText) × P cond)) → P (roll-CondText (map-CondText ((cond : CondText) × P cond) CondText (λ x. x.0) y))
    at (yo.And parts) = subst P (sym (y.rolls-And (map (λ x. x.0) parts))) (and (map (λ x. x.0) parts) (each_of P parts))
    at (yo.Or parts) = subst P (sym (y.rolls-Or (map (λ x. x.0) parts))) (or (map (λ x. x.0) parts) (each_of P parts))
    at (yo.Not part) = subst P (sym (y.rolls-Not part.0)) (not part.0 part.1)
    at (yo.Compare op left right) = subst P (sym (y.rolls-Compare op left right)) (compare op left right)
    at (yo.Relate pred left right) = subst P (sym (y.rolls-Relate pred left right)) (relate pred left right)
    at (yo.Empty period) = subst P (sym (y.rolls-Empty period)) (empty period)
    at (yo.Contains period day) = subst P (sym (y.rolls-Contains period day)) (contains period day)

-- a function gives its kind to arguments of the kinds that it wants
given_fits : (func : Func) → call_kind func (wanted func) ≡ Some (given func)
given_fits func.Least = refl
given_fits func.Greatest = refl
given_fits func.Common = refl
given_fits func.Start = refl
given_fits func.End = refl
given_fits func.Period = refl

-- operands that may be compared have one kind that is no period
comparable_are : (a b : Kind) (u : Unit {0}) → comparable a b ≡ Ok u → are_comparable (Some a) (Some b) ≡ true
comparable_are k.Int b u e = ap (λ z. are_comparable (Some k.Int) (Some z)) (same_is b k.Int u e)
comparable_are k.Text b u e = ap (λ z. are_comparable (Some k.Text) (Some z)) (same_is b k.Text u e)
comparable_are k.Date b u e = ap (λ z. are_comparable (Some k.Date) (Some z)) (same_is b k.Date u e)
comparable_are k.Period b u e = absurd (not_ok _ u e)

module _ (sight : Sight) (kinds : List Kind) (seen : (table : Option (List ℕ)) (name : List ℕ) (x : Found) → found sight table name ≡ Ok x → slice_get kinds x.0 ≡ Some x.1) where
  -- the expression that is checked has the kind that is given
  abbrev ExprFits : ExprText → Type 0
  ExprFits expr = (x : Kinded) → expr_of sight expr ≡ Ok x → kind_in kinds x.0 ≡ Some x.1

  -- the same of arguments
  args_fit : (args : List ExprText) → AllByRecursion ExprFits args → (xs : List Kinded) → in_order (map (expr_of sight) args) ≡ Ok xs → all_kinds (map (kind_in kinds) (map (λ x. x.0) xs)) ≡ Some (map (λ x. x.1) xs)
  args_fit [] all xs g = subst (λ ys. all_kinds (map (kind_in kinds) (map (λ x. x.0) ys)) ≡ Some (map (λ x. x.1) ys)) (ok_same [] xs g) refl
  args_fit (arg ∷ args) all xs g =
      where_ok (expr_of sight arg) (λ x. do xs ← in_order (map (expr_of sight) args); pure (x ∷ xs)) xs (λ y h.
      where_ok (in_order (map (expr_of sight) args)) (λ ys. pure (y ∷ ys)) xs (λ ys k e.
      subst (λ ys. all_kinds (map (kind_in kinds) (map (λ x. x.0) ys)) ≡ Some (map (λ x. x.1) ys)) (ok_same (y ∷ ys) xs e)
      (λ i. with_kind (all.0 y h i) (args_fit args all.1 ys k i)))) g

  -- a call of arguments that fit
  call_fits : (func : Func) (args : List ExprText) → AllByRecursion ExprFits args → ExprFits (x.Call func args)
  call_fits func args all x g =
      where_ok (in_order (map (expr_of sight) args)) (λ xs. call_of func (map (λ x. x.0) xs) (map (λ x. x.1) xs)) x (λ xs h.
      where_ok (agree (map (λ x. x.1) xs) (wanted func)) (λ _. pure (e.Call func (map (λ x. x.0) xs), given func)) x (λ u k same.
      subst (λ y. kind_in kinds y.0 ≡ Some y.1) (ok_same (e.Call func (map (λ x. x.0) xs), given func) x same)
      (kind_in-Call kinds func (map (λ x. x.0) xs) ∙ ap (call_kind_of func) (args_fit args all xs h) ∙ ap (call_kind func) (agree_are (map (λ x. x.1) xs) (wanted func) u k) ∙ given_fits func)))
      (sym (expr_of-Call sight func args) ∙ g)

  -- a column that is found
  column_fits : (table : Option (List ℕ)) (name : List ℕ) → ExprFits (x.Column table name)
  column_fits table name x g =
      where_ok (found sight table name) (λ p. pure (e.Column p.0, p.1)) x (λ p h same.
      subst (λ y. kind_in kinds y.0 ≡ Some y.1) (ok_same (e.Column p.0, p.1) x same) (kind_in-Column kinds p.0 ∙ seen table name p h))
      (sym (expr_of-Column sight table name) ∙ g)

  -- a literal
  literal_fits : (value : Value) → ExprFits (x.Lit value)
  literal_fits value x g = subst (λ y. kind_in kinds y.0 ≡ Some y.1) (ok_same (e.Lit value, kind_of value) x (sym (expr_of-Lit sight value) ∙ g)) (kind_in-Lit kinds value)

  -- an expression that is checked has the kind that is given
  pub expr_fits : (expr : ExprText) → ExprFits expr
  expr_fits = induction-ExprText ExprFits column_fits literal_fits call_fits

  -- the condition that is checked fits
  abbrev CondFits : CondText → Type 0
  CondFits cond = (x : Cond) → cond_of sight cond ≡ Ok x → fits kinds x ≡ true

  -- the same of parts
  parts_fit : (parts : List CondText) → AllByRecursion CondFits parts → (xs : List Cond) → in_order (map (cond_of sight) parts) ≡ Ok xs → list_all (fits kinds) xs ≡ true
  parts_fit [] all xs g = subst (λ ys. list_all (fits kinds) ys ≡ true) (ok_same [] xs g) refl
  parts_fit (part ∷ parts) all xs g =
      where_ok (cond_of sight part) (λ x. do xs ← in_order (map (cond_of sight) parts); pure (x ∷ xs)) xs (λ y h.
      where_ok (in_order (map (cond_of sight) parts)) (λ ys. pure (y ∷ ys)) xs (λ ys k e.
      subst (λ ys. list_all (fits kinds) ys ≡ true) (ok_same (y ∷ ys) xs e) (λ i. all.0 y h i && parts_fit parts all.1 ys k i))) g

  -- AND
  and_fits : (parts : List CondText) → AllByRecursion CondFits parts → CondFits (y.And parts)
  and_fits parts all x g =
      where_ok (in_order (map (cond_of sight) parts)) (λ xs. pure (c.And xs)) x (λ xs h e.
      subst (λ z. fits kinds z ≡ true) (ok_same (c.And xs) x e) (fits-And kinds xs ∙ parts_fit parts all xs h))
      (sym (cond_of-And sight parts) ∙ g)

  -- OR
  or_fits : (parts : List CondText) → AllByRecursion CondFits parts → CondFits (y.Or parts)
  or_fits parts all x g =
      where_ok (in_order (map (cond_of sight) parts)) (λ xs. pure (c.Or xs)) x (λ xs h e.
      subst (λ z. fits kinds z ≡ true) (ok_same (c.Or xs) x e) (fits-Or kinds xs ∙ parts_fit parts all xs h))
      (sym (cond_of-Or sight parts) ∙ g)

  -- NOT
  not_fits : (part : CondText) → CondFits part → CondFits (y.Not part)
  not_fits part h x g =
      where_ok (cond_of sight part) (λ z. pure (c.Not z)) x (λ y k e.
      subst (λ z. fits kinds z ≡ true) (ok_same (c.Not y) x e) (fits-Not kinds y ∙ h y k))
      (sym (cond_of-Not sight part) ∙ g)

  -- a comparison
  compare_fits : (op : Cmp) (left right : ExprText) → CondFits (y.Compare op left right)
  compare_fits op left right x g =
      where_ok (expr_of sight left) (λ p. do q ← expr_of sight right; comparable p.1 q.1; pure (c.Compare op p.0 q.0)) x (λ p a.
      where_ok (expr_of sight right) (λ q. do comparable p.1 q.1; pure (c.Compare op p.0 q.0)) x (λ q b.
      where_ok (comparable p.1 q.1) (λ _. pure (c.Compare op p.0 q.0)) x (λ u d e.
      subst (λ z. fits kinds z ≡ true) (ok_same (c.Compare op p.0 q.0) x e)
      (fits-Compare kinds op p.0 q.0 ∙ (λ i. are_comparable (expr_fits left p a i) (expr_fits right q b i)) ∙ comparable_are p.1 q.1 u d))))
      (sym (cond_of-Compare sight op left right) ∙ g)

  -- the expression is a period
  period_is : (expr : ExprText) (p : Kinded) (u : Unit {0}) → expr_of sight expr ≡ Ok p → same_kind p.1 k.Period ≡ Ok u → is_period (kind_in kinds p.0) ≡ true
  period_is expr p u g h = ap is_period (expr_fits expr p g ∙ ap (λ z. Some z) (same_is p.1 k.Period u h))

  -- the expression is a day
  date_is : (expr : ExprText) (p : Kinded) (u : Unit {0}) → expr_of sight expr ≡ Ok p → same_kind p.1 k.Date ≡ Ok u → is_date (kind_in kinds p.0) ≡ true
  date_is expr p u g h = ap is_date (expr_fits expr p g ∙ ap (λ z. Some z) (same_is p.1 k.Date u h))

  -- a predicate
  relate_fits : (pred : Pred) (left right : ExprText) → CondFits (y.Relate pred left right)
  relate_fits pred left right x g =
      where_ok (expr_of sight left) (λ p. do q ← expr_of sight right; same_kind p.1 k.Period; same_kind q.1 k.Period; pure (c.Relate pred p.0 q.0)) x (λ p a.
      where_ok (expr_of sight right) (λ q. do same_kind p.1 k.Period; same_kind q.1 k.Period; pure (c.Relate pred p.0 q.0)) x (λ q b.
      where_ok (same_kind p.1 k.Period) (λ _. do same_kind q.1 k.Period; pure (c.Relate pred p.0 q.0)) x (λ u d.
      where_ok (same_kind q.1 k.Period) (λ _. pure (c.Relate pred p.0 q.0)) x (λ v f e.
      subst (λ z. fits kinds z ≡ true) (ok_same (c.Relate pred p.0 q.0) x e)
      (fits-Relate kinds pred p.0 q.0 ∙ (λ i. period_is left p u a d i && period_is right q v b f i))))))
      (sym (cond_of-Relate sight pred left right) ∙ g)

  -- the test of a period for days
  empty_fits : (period : ExprText) → CondFits (y.Empty period)
  empty_fits period x g =
      where_ok (expr_of sight period) (λ p. do same_kind p.1 k.Period; pure (c.Empty p.0)) x (λ p a.
      where_ok (same_kind p.1 k.Period) (λ _. pure (c.Empty p.0)) x (λ u d e.
      subst (λ z. fits kinds z ≡ true) (ok_same (c.Empty p.0) x e) (fits-Empty kinds p.0 ∙ period_is period p u a d)))
      (sym (cond_of-Empty sight period) ∙ g)

  -- the test of a period for a day
  contains_fits : (period day : ExprText) → CondFits (y.Contains period day)
  contains_fits period day x g =
      where_ok (expr_of sight period) (λ p. do q ← expr_of sight day; same_kind p.1 k.Period; same_kind q.1 k.Date; pure (c.Contains p.0 q.0)) x (λ p a.
      where_ok (expr_of sight day) (λ q. do same_kind p.1 k.Period; same_kind q.1 k.Date; pure (c.Contains p.0 q.0)) x (λ q b.
      where_ok (same_kind p.1 k.Period) (λ _. do same_kind q.1 k.Date; pure (c.Contains p.0 q.0)) x (λ u d.
      where_ok (same_kind q.1 k.Date) (λ _. pure (c.Contains p.0 q.0)) x (λ v f e.
      subst (λ z. fits kinds z ≡ true) (ok_same (c.Contains p.0 q.0) x e)
      (fits-Contains kinds p.0 q.0 ∙ (λ i. period_is period p u a d i && date_is day q v b f i))))))
      (sym (cond_of-Contains sight period day) ∙ g)

  -- a condition that is checked fits
  pub cond_fits : (cond : CondText) → CondFits cond
  cond_fits = induction-CondText CondFits and_fits or_fits not_fits compare_fits relate_fits empty_fits contains_fits

  -- the conditions of ON fit
  pub conds_fit : (cond : Option CondText) (xs : List Cond) → conds_of sight cond ≡ Ok xs → list_all (fits kinds) xs ≡ true
  conds_fit None xs g = subst (λ ys. list_all (fits kinds) ys ≡ true) (ok_same [] xs g) refl
  conds_fit (Some cond) xs g =
      where_ok (cond_of sight cond) (λ x. pure (x ∷ [])) xs (λ y h e.
      subst (λ ys. list_all (fits kinds) ys ≡ true) (ok_same (y ∷ []) xs e) (ap (λ z. z && true) (cond_fits cond y h))) g

  -- the condition of WHERE fits
  pub where_fits : (cond : Option CondText) (x : Cond) → where_of sight cond ≡ Ok x → fits kinds x ≡ true
  where_fits None x g = subst (λ z. fits kinds z ≡ true) (ok_same (c.And []) x g) (fits-And kinds [])
  where_fits (Some cond) x g = cond_fits cond x g
