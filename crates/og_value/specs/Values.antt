-- Values and rows on a day.
use Rattle.std.specs.Prelude.{ℤ, List, map}
use Rattle.og_time.specs.Point.{point_at}
use Rattle.og_time.specs.Period.{period_at}
use Rattle.og_value.specs.declared.value.Value.{Value}
use Rattle.og_value.specs.declared.value.Value.TheVariants as v
use Rattle.og_value.specs.declared.value.FixedValue.{FixedValue}
use Rattle.og_value.specs.declared.value.FixedValue.TheVariants as f

-- value at a day: a number or a text is itself, a point and a period are what they are on that day
abbrev pub value_at : Value → ℤ → FixedValue
value_at (v.Int n) d = f.Int n
value_at (v.Text t) d = f.Text t
value_at (v.Point p) d = f.Date (point_at p d)
value_at (v.Period i) d = f.Period (period_at i d)

-- a row at a day: the list of its values at that day
abbrev pub row_at : List Value → ℤ → List FixedValue
row_at vs d = map (λ v. value_at v d) vs
