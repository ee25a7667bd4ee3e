-- The words and symbols that have a meaning of their own.
use Rattle.std.specs.Prelude.{Bool, false, Option, Some, None}
use Rattle.og_value.specs.declared.term.Func.{Func}
use Rattle.og_value.specs.declared.term.Func.TheVariants as func
use Rattle.og_value.specs.declared.term.Cmp.{Cmp}
use Rattle.og_value.specs.declared.term.Cmp.TheVariants as cmp
use Rattle.og_value.specs.declared.term.Pred.{Pred}
use Rattle.og_value.specs.declared.term.Pred.TheVariants as pred
use Rattle.og_value.specs.declared.term.SetOp.{SetOp}
use Rattle.og_value.specs.declared.term.SetOp.TheVariants as op
use Rattle.og_syntax.specs.declared.lexeme.Sort.{Sort}
use Rattle.og_syntax.specs.declared.lexeme.Sort.TheVariants as k

-- functions of two expressions
abbrev pub func_of_two : Sort → Option Func
func_of_two k.Least = Some func.Least
func_of_two k.Greatest = Some func.Greatest
func_of_two k.Common = Some func.Common
func_of_two _ = None

-- functions of one expression
abbrev pub func_of_one : Sort → Option Func
func_of_one k.Start = Some func.Start
func_of_one k.End = Some func.End
func_of_one _ = None

-- comparisons of two expressions
abbrev pub comparison_of : Sort → Option Cmp
comparison_of k.Equal = Some cmp.Eq
comparison_of k.NotEqual = Some cmp.Ne
comparison_of k.Less = Some cmp.Lt
comparison_of k.LessEqual = Some cmp.Le
comparison_of k.Greater = Some cmp.Gt
comparison_of k.GreaterEqual = Some cmp.Ge
comparison_of _ = None

-- predicates on two expressions
abbrev pub predicate_of : Sort → Option Pred
predicate_of k.Before = Some pred.Before
predicate_of k.Meets = Some pred.Meets
predicate_of k.Overlaps = Some pred.Overlaps
predicate_of k.Starts = Some pred.Starts
predicate_of k.Finishes = Some pred.Finishes
predicate_of k.During = Some pred.During
predicate_of k.Equals = Some pred.Equals
predicate_of _ = None

-- the operators between the cores of a query; between those of a live query UNION alone
abbrev pub set_op_of : Bool → Sort → Option SetOp
set_op_of live k.Union = Some op.Union
set_op_of false k.Except = Some op.Except
set_op_of false k.Intersect = Some op.Intersect
set_op_of _ _ = None
