-- The kinds of expressions, and which conditions fit the kinds of a row.
use Rattle.std.specs.Prelude.{◌&&◌, Bool, true, false, List, [], ◌∷◌, Option, Some, None, map, slice_get}
use Rattle.std.specs.List.{list_all}
use Rattle.og_value.specs.Cells.{kind_of}
use Rattle.og_value.specs.declared.kind.Kind.{Kind}
use Rattle.og_value.specs.declared.kind.Kind.TheVariants as k
use Rattle.og_value.specs.declared.schema.Column.{Column}
use Rattle.og_value.specs.declared.term.Func.{Func}
use Rattle.og_value.specs.declared.term.Func.TheVariants as func
use Rattle.og_value.specs.declared.value.FixedValue.{FixedValue}
use Rattle.og_value.specs.declared.value.FixedValue.TheVariants as f
use Rattle.og_query.specs.declared.expression.Expr.{Expr, fold-Expr}
use Rattle.og_query.specs.declared.expression.Expr.TheOpen as e
use Rattle.og_query.specs.declared.condition.Cond.{Cond, fold-Cond}
use Rattle.og_query.specs.declared.condition.Cond.TheOpen as c

-- the kinds of columns
abbrev pub kinds_of : List Column → List Kind
kinds_of columns = map (λ column. column.kind) columns

-- the kind of a value on a day
abbrev pub fixed_kind : FixedValue → Kind
fixed_kind (f.Int n) = k.Int
fixed_kind (f.Text t) = k.Text
fixed_kind (f.Date a) = k.Date
fixed_kind (f.Period p) = k.Period

-- the kind of a function of values of these kinds, where it takes such
abbrev pub call_kind : Func → List Kind → Option Kind
call_kind func.Least (k.Date ∷ k.Date ∷ []) = Some k.Date
call_kind func.Greatest (k.Date ∷ k.Date ∷ []) = Some k.Date
call_kind func.Common (k.Period ∷ k.Period ∷ []) = Some k.Period
call_kind func.Start (k.Period ∷ []) = Some k.Date
call_kind func.End (k.Period ∷ []) = Some k.Date
call_kind func.Period (k.Date ∷ k.Date ∷ []) = Some k.Period
call_kind _ _ = None

-- a kind at the front of kinds, where all are there
abbrev pub with_kind : Option Kind → Option (List Kind) → Option (List Kind)
with_kind (Some kind) (Some kinds) = Some (kind ∷ kinds)
with_kind _ _ = None

-- the kinds, where all are there
abbrev pub all_kinds : List (Option Kind) → Option (List Kind)
all_kinds [] = Some []
all_kinds (kind ∷ kinds) = with_kind kind (all_kinds kinds)

-- the kind of a function of arguments, where it takes such
abbrev pub call_kind_of : Func → Option (List Kind) → Option Kind
call_kind_of func (Some kinds) = call_kind func kinds
call_kind_of func None = None

-- one expression, with the kind of each argument in its place
abbrev pub kind_step : List Kind → e.Expr-F (Option Kind) → Option Kind
kind_step kinds (e.Column place) = slice_get kinds place
kind_step kinds (e.Lit value) = Some (kind_of value)
kind_step kinds (e.Call func args) = call_kind_of func (all_kinds args)

-- the kind of an expression on rows whose columns have these kinds, where it fits them
abbrev pub kind_in : List Kind → Expr → Option Kind
kind_in kinds = fold-Expr (Option Kind) (kind_step kinds)

-- two of one kind, other than periods
abbrev pub are_comparable : Option Kind → Option Kind → Bool
are_comparable (Some k.Int) (Some k.Int) = true
are_comparable (Some k.Text) (Some k.Text) = true
are_comparable (Some k.Date) (Some k.Date) = true
are_comparable _ _ = false

-- a day
abbrev pub is_date : Option Kind → Bool
is_date (Some k.Date) = true
is_date _ = false

-- a period
abbrev pub is_period : Option Kind → Bool
is_period (Some k.Period) = true
is_period _ = false

-- one condition, with whether each part fits in its place
abbrev pub fit_step : List Kind → c.Cond-F Bool → Bool
fit_step kinds (c.And parts) = list_all (λ part. part) parts
fit_step kinds (c.Or parts) = list_all (λ part. part) parts
fit_step kinds (c.Not part) = part
fit_step kinds (c.Compare op left right) = are_comparable (kind_in kinds left) (kind_in kinds right)
fit_step kinds (c.Relate pred left right) = is_period (kind_in kinds left) && is_period (kind_in kinds right)
fit_step kinds (c.Empty period) = is_period (kind_in kinds period)
fit_step kinds (c.Contains period day) = is_period (kind_in kinds period) && is_date (kind_in kinds day)

-- whether a condition fits rows whose columns have these kinds
abbrev pub fits : List Kind → Cond → Bool
fits kinds = fold-Cond Bool (fit_step kinds)
