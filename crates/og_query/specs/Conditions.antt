-- Whether a condition holds of a row of one day.
use Rattle.std.specs.Prelude.{ℤ, Bool, true, false, not, List}
use Rattle.std.specs.List.{list_all, list_any}
use Rattle.std.specs.declared.cmp.Ordering.{Ordering}
use Rattle.std.specs.declared.cmp.Ordering.TheVariants.{Less, Equal, Greater}
use Rattle.og_base.specs.declared.range.FixedPeriod.{FixedPeriod}
use Rattle.og_time.specs.FixedOperations.{is_empty_period, contains_day, is_before, meets_period, overlaps_period, starts_period, finishes_period, is_during, equals_period}
use Rattle.og_value.specs.Order.{value_order}
use Rattle.og_value.specs.declared.term.Cmp.{Cmp}
use Rattle.og_value.specs.declared.term.Cmp.TheVariants as cmp
use Rattle.og_value.specs.declared.term.Pred.{Pred}
use Rattle.og_value.specs.declared.term.Pred.TheVariants as pred
use Rattle.og_value.specs.declared.value.FixedValue.{FixedValue}
use Rattle.og_value.specs.declared.value.FixedValue.TheVariants as f
use Rattle.og_query.specs.Expressions.{meaning}
use Rattle.og_query.specs.declared.condition.Cond.{Cond, fold-Cond}
use Rattle.og_query.specs.declared.condition.Cond.TheOpen.{Cond-F, And, Or, Not, Compare, Relate, Empty, Contains}

-- whether a comparison holds of two values that stand so
abbrev pub allows : Cmp → Ordering → Bool
allows cmp.Eq Equal = true
allows cmp.Ne Less = true
allows cmp.Ne Greater = true
allows cmp.Lt Less = true
allows cmp.Le Less = true
allows cmp.Le Equal = true
allows cmp.Gt Greater = true
allows cmp.Ge Greater = true
allows cmp.Ge Equal = true
allows _ _ = false

-- two values of one kind, other than periods, compare so
abbrev pub compares : Cmp → FixedValue → FixedValue → Bool
compares op (f.Int m) (f.Int n) = allows op (value_order (f.Int m) (f.Int n))
compares op (f.Text s) (f.Text t) = allows op (value_order (f.Text s) (f.Text t))
compares op (f.Date a) (f.Date b) = allows op (value_order (f.Date a) (f.Date b))
compares op x y = false

-- a predicate on two periods, by the fixed operations
abbrev pub relation_of : Pred → FixedPeriod → FixedPeriod → Bool
relation_of pred.Before = is_before
relation_of pred.Meets = meets_period
relation_of pred.Overlaps = overlaps_period
relation_of pred.Starts = starts_period
relation_of pred.Finishes = finishes_period
relation_of pred.During = is_during
relation_of pred.Equals = equals_period

-- two values are periods in this relation
abbrev pub relates : Pred → FixedValue → FixedValue → Bool
relates pred (f.Period p) (f.Period q) = relation_of pred p q
relates pred x y = false

-- the value is a period without days
abbrev pub is_empty : FixedValue → Bool
is_empty (f.Period p) = is_empty_period p
is_empty x = false

-- the values are a period and a day of it
abbrev pub contains : FixedValue → FixedValue → Bool
contains (f.Period p) (f.Date a) = contains_day p a
contains x y = false

-- one condition, with the truth of each part in its place
abbrev pub truth_step : ℤ → List FixedValue → Cond-F Bool → Bool
truth_step d row (And parts) = list_all (λ part. part) parts
truth_step d row (Or parts) = list_any (λ part. part) parts
truth_step d row (Not part) = not part
truth_step d row (Compare op left right) = compares op (meaning d row left) (meaning d row right)
truth_step d row (Relate pred left right) = relates pred (meaning d row left) (meaning d row right)
truth_step d row (Empty period) = is_empty (meaning d row period)
truth_step d row (Contains period day) = contains (meaning d row period) (meaning d row day)

-- truth of a condition: whether it holds on day d of a row of that day
abbrev pub truth : ℤ → List FixedValue → Cond → Bool
truth d row = fold-Cond Bool (truth_step d row)
