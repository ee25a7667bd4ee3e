-- Whether a condition may hold of a row on some day, told by the row alone.
use Rattle.std.specs.Prelude.{◌&&◌, ◌||◌, Bool, true, false, int_lt, List, Option, Some, None, slice_get}
use Rattle.std.specs.List.{list_all, list_any}
use Rattle.std.specs.Ordering.{int_cmp, nat_cmp}
use Rattle.std.specs.Cmp.Lexicographic.{slice_cmp}
use Rattle.og_base.specs.declared.range.FixedPeriod.{FixedPeriod}
use Rattle.og_time.specs.FixedOperations.{least_of, greatest_of}
use Rattle.og_time.specs.Period.{Period}
use Rattle.og_value.specs.declared.term.Cmp.{Cmp}
use Rattle.og_value.specs.declared.term.Pred.{Pred}
use Rattle.og_value.specs.declared.term.Pred.TheVariants as pred
use Rattle.og_value.specs.declared.value.Value.{Value}
use Rattle.og_value.specs.declared.value.Value.TheVariants as v
use Rattle.og_query.specs.Conditions.{allows}
use Rattle.og_query.specs.declared.expression.Expr.{Expr, fold-Expr}
use Rattle.og_query.specs.declared.expression.Expr.TheOpen as e
use Rattle.og_query.specs.declared.condition.Cond.{Cond, fold-Cond}
use Rattle.og_query.specs.declared.condition.Cond.TheOpen.{Cond-F, And, Or, Compare, Relate}

-- the fixed period round the values of a period on all days
abbrev pub outer : Period → FixedPeriod
outer i = record { start = least_of i.start.low i.start.high; end = greatest_of i.end.low i.end.high }

-- two values may compare so on some day: numbers and texts as they are, points always, and others never
abbrev pub may_compare : Cmp → Value → Value → Bool
may_compare op (v.Int m) (v.Int n) = allows op (int_cmp m n)
may_compare op (v.Text s) (v.Text t) = allows op (slice_cmp nat_cmp s t)
may_compare op (v.Point p) (v.Point q) = true
may_compare op x y = false

-- a predicate of two periods that have no day in common
abbrev pub is_apart : Pred → Bool
is_apart pred.Before = true
is_apart pred.Meets = true
is_apart _ = false

-- periods inside these two may stand so: the first begins before the second ends, and the second before the first ends unless they are apart
abbrev pub may_stand : Pred → FixedPeriod → FixedPeriod → Bool
may_stand pred p q = int_lt p.start q.end && (is_apart pred || int_lt q.start p.end)

-- two values may be periods in this relation on some day, as far as what is round them tells
abbrev pub may_relate : Pred → Value → Value → Bool
may_relate pred (v.Period i) (v.Period j) = may_stand pred (outer i) (outer j)
may_relate pred x y = false

-- the value that the row has for a column, and that of a literal; none of a call
abbrev pub known_step : List Value → e.Expr-F (Option Value) → Option Value
known_step row (e.Column place) = slice_get row place
known_step row (e.Lit value) = Some value
known_step row (e.Call func args) = None

-- the value of an expression where the row tells it without a call
abbrev pub known : List Value → Expr → Option Value
known row = fold-Expr (Option Value) (known_step row)

-- a test of two values, which passes where one of them is not known
abbrev pub unless_known : (Value → Value → Bool) → Option Value → Option Value → Bool
unless_known test (Some x) (Some y) = test x y
unless_known test _ _ = true

-- one condition, with what is told of each part in its place: of NOT, EMPTY and CONTAINS nothing is
abbrev pub may_step : List Value → Cond-F Bool → Bool
may_step row (And parts) = list_all (λ part. part) parts
may_step row (Or parts) = list_any (λ part. part) parts
may_step row (Compare op left right) = unless_known (may_compare op) (known row left) (known row right)
may_step row (Relate pred left right) = unless_known (may_relate pred) (known row left) (known row right)
may_step row _ = true

-- whether a condition may hold of the row on some day, as far as its numbers and texts and what is round its periods tell
abbrev pub may_hold : List Value → Cond → Bool
may_hold row = fold-Cond Bool (may_step row)
