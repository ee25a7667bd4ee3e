-- The spans of the periods in columns.
use Rattle.std.specs.Prelude.{◌&&◌, ℕ, ℤ, Bool, List, Option, Some, None, slice_get, if◌then◌else◌}
use Rattle.og_base.specs.Calendar.{before_all, after_all}
use Rattle.og_base.specs.declared.range.FixedPeriod.{FixedPeriod}
use Rattle.og_time.specs.FixedOperations.{least_of, greatest_of}
use Rattle.og_value.specs.declared.term.Pred.TheVariants as pred
use Rattle.og_value.specs.declared.value.Value.{Value}
use Rattle.og_value.specs.declared.value.Value.TheVariants as v
use Rattle.og_query.specs.Conditions.{relates}
use Rattle.og_query.specs.Queries.{Fixed}
use Rattle.og_query.specs.declared.condition.Cond.{Cond}
use Rattle.og_plan.specs.Meaning.{all_hold, column}

-- the span of all days
abbrev pub all_days : FixedPeriod
all_days = record { start = before_all; end = after_all }

-- what is round a period on all days: from the lesser end of its start to the greater end of its end; all days of any other value
abbrev pub span_of : Value → FixedPeriod
span_of (v.Int n) = all_days
span_of (v.Text t) = all_days
span_of (v.Point p) = all_days
span_of (v.Period i) = record { start = least_of i.start.low i.start.high; end = greatest_of i.end.low i.end.high }

-- the span of the value at a place, all days where there is none
abbrev pub span_at : Option Value → FixedPeriod
span_at (Some value) = span_of value
span_at None = all_days

-- the span of the value in a column, where it is known, and otherwise all days
abbrev pub span_in : Bool → ℕ → List Value → FixedPeriod
span_in known place row = if known then span_at (slice_get row place) else all_days

-- the periods in the two columns of a row overlap, and all parts hold of it
abbrev pub do_overlap_and : ℤ → ℕ → ℕ → List Cond → Fixed → Bool
do_overlap_and d a b rest row = relates pred.Overlaps (column row a) (column row b) && all_hold d rest row
