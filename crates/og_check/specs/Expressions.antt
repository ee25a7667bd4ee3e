-- The checks of expressions and conditions: operand by operand from the left, then the node itself.
use Rattle.std.specs.Prelude.{List, [], ◌∷◌, Option, Some, None, Err, map}
use Rattle.og_value.specs.Cells.{kind_of}
use Rattle.og_value.specs.declared.kind.Kind.{Kind}
use Rattle.og_value.specs.declared.kind.Kind.TheVariants as k
use Rattle.og_value.specs.declared.term.Cmp.{Cmp}
use Rattle.og_value.specs.declared.term.Func.{Func}
use Rattle.og_value.specs.declared.term.Func.TheVariants as func
use Rattle.og_value.specs.declared.term.Pred.{Pred}
use Rattle.og_syntax.specs.declared.tree.ExprText.{ExprText, fold-ExprText}
use Rattle.og_syntax.specs.declared.tree.ExprText.TheOpen as text
use Rattle.og_syntax.specs.declared.tree.CondText.{CondText, fold-CondText}
use Rattle.og_syntax.specs.declared.tree.CondText.TheOpen as written_
use Rattle.og_query.specs.declared.expression.Expr.{Expr}
use Rattle.og_query.specs.declared.expression.Expr.TheVariants as e
use Rattle.og_query.specs.declared.condition.Cond.{Cond}
use Rattle.og_query.specs.declared.condition.Cond.TheVariants as c
use Rattle.og_check.specs.declared.refusal.CheckRefusal.TheVariants as r
use Rattle.og_check.specs.Steps.{Checked, ◌>>=◌, ◌>>◌, pure, in_order, agree, same_kind}
use Rattle.og_check.specs.Sight.{Sight, found}

-- an expression and its kind
abbrev pub Kinded : Type 0
Kinded = Expr × Kind

-- the kinds that a function wants
abbrev pub wanted : Func → List Kind
wanted func.Least = k.Date ∷ k.Date ∷ []
wanted func.Greatest = k.Date ∷ k.Date ∷ []
wanted func.Common = k.Period ∷ k.Period ∷ []
wanted func.Start = k.Period ∷ []
wanted func.End = k.Period ∷ []
wanted func.Period = k.Date ∷ k.Date ∷ []

-- the kind that a function gives
abbrev pub given : Func → Kind
given func.Least = k.Date
given func.Greatest = k.Date
given func.Common = k.Period
given func.Start = k.Date
given func.End = k.Date
given func.Period = k.Period

-- a function of arguments that have these kinds
abbrev pub call_of : Func → List Expr → List Kind → Checked Kinded
call_of func args kinds = do agree kinds (wanted func); pure (e.Call func args, given func)

-- one expression, with each argument checked in its place
abbrev pub expr_step : Sight → text.ExprText-F (Checked Kinded) → Checked Kinded
expr_step sight (text.Column table name) = do x ← found sight table name; pure (e.Column x.0, x.1)
expr_step sight (text.Lit value) = pure (e.Lit value, kind_of value)
expr_step sight (text.Call func args) = do xs ← in_order args; call_of func (map (λ x. x.0) xs) (map (λ x. x.1) xs)

-- an expression over the columns in sight
abbrev pub expr_of : Sight → ExprText → Checked Kinded
expr_of sight = fold-ExprText (Checked Kinded) (expr_step sight)

-- two operands of a comparison: no periods, and of one kind
abbrev pub comparable : Kind → Kind → Checked (Unit {0})
comparable k.Period right = Err (r.KindsDiffer k.Period k.Date)
comparable left right = same_kind right left

-- a comparison of two of one kind, other than periods
abbrev pub compare_of : Sight → Cmp → ExprText → ExprText → Checked Cond
compare_of sight op left right = do
  x ← expr_of sight left
  y ← expr_of sight right
  comparable x.1 y.1
  pure (c.Compare op x.0 y.0)

-- a predicate on two periods
abbrev pub relate_of : Sight → Pred → ExprText → ExprText → Checked Cond
relate_of sight pred left right = do
  x ← expr_of sight left
  y ← expr_of sight right
  same_kind x.1 k.Period
  same_kind y.1 k.Period
  pure (c.Relate pred x.0 y.0)

-- the test of a period for days
abbrev pub empty_of : Sight → ExprText → Checked Cond
empty_of sight period = do x ← expr_of sight period; same_kind x.1 k.Period; pure (c.Empty x.0)

-- the test of a period for a day
abbrev pub contains_of : Sight → ExprText → ExprText → Checked Cond
contains_of sight period day = do
  x ← expr_of sight period
  y ← expr_of sight day
  same_kind x.1 k.Period
  same_kind y.1 k.Date
  pure (c.Contains x.0 y.0)

-- one condition, with each part checked in its place
abbrev pub cond_step : Sight → written_.CondText-F (Checked Cond) → Checked Cond
cond_step sight (written_.And parts) = do xs ← in_order parts; pure (c.And xs)
cond_step sight (written_.Or parts) = do xs ← in_order parts; pure (c.Or xs)
cond_step sight (written_.Not part) = do x ← part; pure (c.Not x)
cond_step sight (written_.Compare op left right) = compare_of sight op left right
cond_step sight (written_.Relate pred left right) = relate_of sight pred left right
cond_step sight (written_.Empty period) = empty_of sight period
cond_step sight (written_.Contains period day) = contains_of sight period day

-- a condition over the columns in sight
abbrev pub cond_of : Sight → CondText → Checked Cond
cond_of sight = fold-CondText (Checked Cond) (cond_step sight)

-- the condition as a list of one, and no list where there is none
abbrev pub conds_of : Sight → Option CondText → Checked (List Cond)
conds_of sight (Some cond) = do x ← cond_of sight cond; pure (x ∷ [])
conds_of sight None = pure []

-- the condition of WHERE, and one that is true where there is none
abbrev pub where_of : Sight → Option CondText → Checked Cond
where_of sight (Some cond) = cond_of sight cond
where_of sight None = pure (c.And [])
