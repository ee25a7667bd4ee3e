-- What an expression is on a row of one day, and of which kind it is.
use Rattle.std.specs.Prelude.{ℤ, pos, List, [], ◌∷◌, slice_index_or}
use Rattle.og_time.specs.FixedOperations.{least_of, greatest_of, start_of, end_of, period_of, common_of}
use Rattle.og_value.specs.Values.{value_at}
use Rattle.og_value.specs.declared.term.Func.{Func}
use Rattle.og_value.specs.declared.term.Func.TheVariants as func
use Rattle.og_value.specs.declared.value.FixedValue.{FixedValue}
use Rattle.og_value.specs.declared.value.FixedValue.TheVariants as f
use Rattle.og_query.specs.declared.expression.Expr.{Expr, fold-Expr}
use Rattle.og_query.specs.declared.expression.Expr.TheOpen.{Expr-F, Column, Lit, Call}

-- the number 0, which stands where a row or a call does not fit
abbrev pub no_value : FixedValue
no_value = f.Int (pos 0)

-- a function of values, by the fixed operations; the number 0 where it does not take values of these kinds
abbrev pub call_of : Func → List FixedValue → FixedValue
call_of func.Least (f.Date a ∷ f.Date b ∷ []) = f.Date (least_of a b)
call_of func.Greatest (f.Date a ∷ f.Date b ∷ []) = f.Date (greatest_of a b)
call_of func.Common (f.Period p ∷ f.Period q ∷ []) = f.Period (common_of p q)
call_of func.Start (f.Period p ∷ []) = f.Date (start_of p)
call_of func.End (f.Period p ∷ []) = f.Date (end_of p)
call_of func.Period (f.Date a ∷ f.Date b ∷ []) = f.Period (period_of a b)
call_of _ _ = no_value

-- one expression, with the value of each argument in its place
abbrev pub value_step : ℤ → List FixedValue → Expr-F FixedValue → FixedValue
value_step d row (Column place) = slice_index_or row place no_value
value_step d row (Lit value) = value_at value d
value_step d row (Call func args) = call_of func args

-- meaning of an expression: its value on day d, on a row of that day
abbrev pub meaning : ℤ → List FixedValue → Expr → FixedValue
meaning d row = fold-Expr FixedValue (value_step d row)
