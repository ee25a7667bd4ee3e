-- Which values are the same on all days.
use Rattle.std.specs.Prelude.{◌&&◌, Bool, true}
use Rattle.std.specs.Ordering.{int_eq}
use Rattle.og_time.specs.Point.{Point}
use Rattle.og_value.specs.declared.value.Value.{Value}
use Rattle.og_value.specs.declared.value.Value.TheVariants as v
use Rattle.og_value.specs.declared.value.FixedValue.{FixedValue}
use Rattle.og_value.specs.declared.value.FixedValue.TheVariants as f

-- a point X+X
abbrev pub is_fixed : Point → Bool
is_fixed p = int_eq p.low p.high

-- a value without `now` in it
abbrev pub is_steady_value : Value → Bool
is_steady_value (v.Int n) = true
is_steady_value (v.Text t) = true
is_steady_value (v.Point p) = is_fixed p
is_steady_value (v.Period i) = is_fixed i.start && is_fixed i.end

-- the value that is this one on all days
abbrev pub steady_value : FixedValue → Value
steady_value (f.Int n) = v.Int n
steady_value (f.Text t) = v.Text t
steady_value (f.Date a) = v.Point (record { low = a; high = a })
steady_value (f.Period p) = v.Period (record { start = record { low = p.start; high = p.start }; end = record { low = p.end; high = p.end } })
