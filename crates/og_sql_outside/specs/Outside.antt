-- What PostgreSQL cannot hold of values, trees and statements: the first such day or text, in their order.
use Rattle.std.specs.Prelude.{◌&&◌, ◌==◌, ℕ, ℤ, pos, neg_ℤ, Bool, int_lt, List, [], ◌∷◌, Option, Some, None, if◌then◌else◌}
use Rattle.std.specs.List.{list_any}
use Rattle.std.specs.Option.{option_or}
use Rattle.std.specs.Ordering.{int_eq}
use Rattle.og_base.specs.Calendar.{before_all, first_day}
use Rattle.og_base.specs.Ranges.{Range}
use Rattle.og_time.specs.Point.{Point}
use Rattle.og_value.specs.declared.value.Value.{Value}
use Rattle.og_value.specs.declared.value.Value.TheVariants as v
use Rattle.og_query.specs.declared.expression.Expr.{Expr, fold-Expr}
use Rattle.og_query.specs.declared.expression.Expr.TheOpen as e
use Rattle.og_query.specs.declared.condition.Cond.{Cond, fold-Cond}
use Rattle.og_query.specs.declared.condition.Cond.TheOpen as c
use Rattle.og_query.specs.declared.query.Core.{Core}
use Rattle.og_query.specs.declared.query.Query.{Query}
use Rattle.og_query.specs.declared.typed.Typed.{Typed}
use Rattle.og_query.specs.declared.typed.Typed.TheVariants as t
use Rattle.og_sql_outside.specs.declared.values.Outside.{Outside}
use Rattle.og_sql_outside.specs.declared.values.Outside.TheVariants.{Day, Nul}

-- the first that some item has
abbrev pub first_in : {A : Type 0} → (A → Option Outside) → List A → Option Outside
first_in f [] = None
first_in f (x ∷ xs) = option_or (f x) (first_in f xs)

-- -004713-11-24, the first day of PostgreSQL
abbrev pub first_held : ℤ
first_held = neg_ℤ (pos 2_440_588)

-- of a day: one before the first day, but for the infinite past
abbrev pub outside_day : ℤ → Option Outside
outside_day day = if int_lt before_all day && int_lt day first_held then Some (Day day) else None

-- one of the bytes is 0
abbrev pub has_nul : List ℕ → Bool
has_nul bytes = list_any (λ b. b == 0) bytes

-- of a text: one with a byte 0
abbrev pub outside_text : List ℕ → Option Outside
outside_text text = if has_nul text then Some Nul else None

-- of a point: its low end, then its high end
abbrev pub outside_point : Point → Option Outside
outside_point point = option_or (outside_day point.low) (outside_day point.high)

-- of a value
abbrev pub outside_value : Value → Option Outside
outside_value (v.Int n) = None
outside_value (v.Text text) = outside_text text
outside_value (v.Point point) = outside_point point
outside_value (v.Period period) = option_or (outside_point period.start) (outside_point period.end)

-- of a row
abbrev pub outside_row : List Value → Option Outside
outside_row row = first_in outside_value row

-- of rows
abbrev pub outside_rows : List (List Value) → Option Outside
outside_rows rows = first_in outside_row rows

-- of the lower end of a range: one from the first reference day on has none
abbrev pub outside_lower : ℤ → Option Outside
outside_lower day = if int_eq day first_day then None else outside_day day

-- of a range of days
abbrev pub outside_range : Range → Option Outside
outside_range range = option_or (outside_lower range.lo) (outside_day range.hi)

-- of ranges of days
abbrev pub outside_ranges : List Range → Option Outside
outside_ranges ranges = first_in outside_range ranges

-- of a row, then of its days
abbrev pub outside_pair : List Value × List Range → Option Outside
outside_pair pair = option_or (outside_row pair.0) (outside_ranges pair.1)

-- of a relation
abbrev pub outside_rel : List (List Value × List Range) → Option Outside
outside_rel rel = first_in outside_pair rel

-- of one expression, with that of each argument in its place
abbrev pub outside_step : e.Expr-F (Option Outside) → Option Outside
outside_step (e.Column place) = None
outside_step (e.Lit value) = outside_value value
outside_step (e.Call func args) = first_in (λ arg. arg) args

-- of the literals of an expression
abbrev pub outside_expr : Expr → Option Outside
outside_expr = fold-Expr (Option Outside) outside_step

-- of one condition, with that of each part in its place
abbrev pub outside_part : c.Cond-F (Option Outside) → Option Outside
outside_part (c.And parts) = first_in (λ part. part) parts
outside_part (c.Or parts) = first_in (λ part. part) parts
outside_part (c.Not part) = part
outside_part (c.Compare op left right) = option_or (outside_expr left) (outside_expr right)
outside_part (c.Relate pred left right) = option_or (outside_expr left) (outside_expr right)
outside_part (c.Empty period) = outside_expr period
outside_part (c.Contains period day) = option_or (outside_expr period) (outside_expr day)

-- of the literals of a condition
abbrev pub outside_cond : Cond → Option Outside
outside_cond = fold-Cond (Option Outside) outside_part

-- of the literals of a core: the condition, then those of EXISTS, then the items
abbrev pub outside_core : Core → Option Outside
outside_core core =
    option_or (option_or (outside_cond core.cond) (first_in (λ semi. outside_cond semi.cond) core.semis)) (first_in outside_expr core.items)

-- of the literals of a query: the first core, then the rest
abbrev pub outside_query : Query → Option Outside
outside_query query = option_or (outside_core query.first) (first_in (λ rest. outside_core rest.core) query.rest)

-- of the rows, literals and day of a statement
abbrev pub outside_statement : Typed → Option Outside
outside_statement (t.Insert name rows) = outside_rows rows
outside_statement (t.Delete name cond) = outside_cond cond
outside_statement (t.Update name sets cond) = option_or (first_in (λ set. outside_expr set.expr) sets) (outside_cond cond)
outside_statement (t.Keep name query) = outside_query query
outside_statement (t.Live name query) = outside_query query
outside_statement (t.Explain query) = outside_query query
outside_statement (t.PrintQuery query day) = option_or (outside_query query) (outside_day day)
outside_statement (t.PrintName name day) = outside_day day
outside_statement (t.Valid name day) = outside_day day
outside_statement _ = None
