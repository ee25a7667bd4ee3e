-- The equations of the checks of expressions and conditions, one for each variant that has parts of its own.
use Rattle.std.proofs.Common.{◌≡◌, ℕ, List, Option, map, ap, sym, ◌∙◌}
use Rattle.og_value.specs.Cells.{kind_of}
use Rattle.og_value.specs.declared.term.Cmp.{Cmp}
use Rattle.og_value.specs.declared.term.Func.{Func}
use Rattle.og_value.specs.declared.term.Pred.{Pred}
use Rattle.og_value.specs.declared.value.Value.{Value}
use Rattle.og_syntax.specs.declared.tree.ExprText.{ExprText, fold-roll-ExprText}
use Rattle.og_syntax.specs.declared.tree.ExprText.TheVariants as x
use Rattle.og_syntax.specs.declared.tree.ExprText.TheOpen as xo
use Rattle.og_syntax.specs.declared.tree.CondText.{CondText, fold-roll-CondText}
use Rattle.og_syntax.specs.declared.tree.CondText.TheVariants as y
use Rattle.og_syntax.specs.declared.tree.CondText.TheOpen as yo
use Rattle.og_query.specs.declared.expression.Expr.TheVariants as e
use Rattle.og_query.specs.declared.condition.Cond.{Cond}
use Rattle.og_query.specs.declared.condition.Cond.TheVariants as c
use Rattle.og_check.specs.Steps.{Checked, ◌>>=◌, pure, in_order}
use Rattle.og_check.specs.Sight.{Sight, found}
use Rattle.og_check.specs.Expressions.{Kinded, expr_of, expr_step, call_of, cond_of, cond_step, compare_of, relate_of, empty_of, contains_of}

module _ (sight : Sight) where
  -- a column
  pub expr_of-Column : (table : Option (List ℕ)) (name : List ℕ) → expr_of sight (x.Column table name) ≡ (do p ← found sight table name; pure (e.Column p.0, p.1))
  expr_of-Column table name = ap (expr_of sight) (sym (x.rolls-Column table name)) ∙ fold-roll-ExprText (Checked Kinded) (expr_step sight) (xo.Column table name)

  -- a literal
  pub expr_of-Lit : (value : Value) → expr_of sight (x.Lit value) ≡ pure (e.Lit value, kind_of value)
  expr_of-Lit value = ap (expr_of sight) (sym (x.rolls-Lit value)) ∙ fold-roll-ExprText (Checked Kinded) (expr_step sight) (xo.Lit value)

  -- a call
  pub expr_of-Call : (func : Func) (args : List ExprText) → expr_of sight (x.Call func args) ≡ (do xs ← in_order (map (expr_of sight) args); call_of func (map (λ x. x.0) xs) (map (λ x. x.1) xs))
  expr_of-Call func args = ap (expr_of sight) (sym (x.rolls-Call func args)) ∙ fold-roll-ExprText (Checked Kinded) (expr_step sight) (xo.Call func args)

  -- AND
  pub cond_of-And : (parts : List CondText) → cond_of sight (y.And parts) ≡ (do xs ← in_order (map (cond_of sight) parts); pure (c.And xs))
  cond_of-And parts = ap (cond_of sight) (sym (y.rolls-And parts)) ∙ fold-roll-CondText (Checked Cond) (cond_step sight) (yo.And parts)

  -- OR
  pub cond_of-Or : (parts : List CondText) → cond_of sight (y.Or parts) ≡ (do xs ← in_order (map (cond_of sight) parts); pure (c.Or xs))
  cond_of-Or parts = ap (cond_of sight) (sym (y.rolls-Or parts)) ∙ fold-roll-CondText (Checked Cond) (cond_step sight) (yo.Or parts)

  -- NOT
  pub cond_of-Not : (part : CondText) → cond_of sight (y.Not part) ≡ (do x ← cond_of sight part; pure (c.Not x))
  cond_of-Not part = ap (cond_of sight) (sym (y.rolls-Not part)) ∙ fold-roll-CondText (Checked Cond) (cond_step sight) (yo.Not part)

  -- a comparison
  pub cond_of-Compare : (op : Cmp) (left right : ExprText) → cond_of sight (y.Compare op left right) ≡ compare_of sight op left right
  cond_of-Compare op left right = ap (cond_of sight) (sym (y.rolls-Compare op left right)) ∙ fold-roll-CondText (Checked Cond) (cond_step sight) (yo.Compare op left right)

  -- a predicate
  pub cond_of-Relate : (pred : Pred) (left right : ExprText) → cond_of sight (y.Relate pred left right) ≡ relate_of sight pred left right
  cond_of-Relate pred left right = ap (cond_of sight) (sym (y.rolls-Relate pred left right)) ∙ fold-roll-CondText (Checked Cond) (cond_step sight) (yo.Relate pred left right)

  -- the test of a period for days
  pub cond_of-Empty : (period : ExprText) → cond_of sight (y.Empty period) ≡ empty_of sight period
  cond_of-Empty period = ap (cond_of sight) (sym (y.rolls-Empty period)) ∙ fold-roll-CondText (Checked Cond) (cond_step sight) (yo.Empty period)

  -- the test of a period for a day
  pub cond_of-Contains : (period day : ExprText) → cond_of sight (y.Contains period day) ≡ contains_of sight period day
  cond_of-Contains period day = ap (cond_of sight) (sym (y.rolls-Contains period day)) ∙ fold-roll-CondText (Checked Cond) (cond_step sight) (yo.Contains period day)
