-- The texts of cells: of values, and of values on one day.
use Rattle.std.specs.Prelude.{◌≡◌, ◌≢◌, ℕ, ℤ, List, slice_index, FitsSigned, ⊤}
use Rattle.std.specs.Int.{w64}
use Rattle.std.specs.Fmt.{signed_decimal}
use Rattle.std.specs.Str.{IsUtf8}
use Rattle.std.specs.Str.Parse.{IsNumeral, signed_digits_value, without_leading_sign}
use Rattle.og_base.specs.Calendar.{IsExtDay, day_text}
use Rattle.og_time.specs.Point as points
use Rattle.og_time.specs.Period as periods
use Rattle.og_value.specs.declared.kind.Kind.{Kind}
use Rattle.og_value.specs.declared.kind.Kind.TheVariants as k
use Rattle.og_value.specs.declared.value.Value.{Value}
use Rattle.og_value.specs.declared.value.Value.TheVariants as v
use Rattle.og_value.specs.declared.value.FixedValue.{FixedValue}
use Rattle.og_value.specs.declared.value.FixedValue.TheVariants as f

-- one digit or more, with a minus sign before them or none, and the number that they write, of 64 bits with a sign
pub record IsIntText (text : List ℕ) (n : ℤ) : Type 0 where
  pub no_plus : slice_index text 0 ≢ 43
  pub digits : IsNumeral 10 (without_leading_sign text)
  pub number : n ≡ signed_digits_value 10 text
  pub fits : FitsSigned w64 n

-- a cell of the kind, and its value: a number, UTF-8, a point text or a period text
abbrev pub IsCell : Kind → List ℕ → Value → Type 0
IsCell k.Int text value = (n : ℤ) × IsIntText text n × (value ≡ v.Int n)
IsCell k.Text text value = IsUtf8 text × (value ≡ v.Text text)
IsCell k.Date text value = (p : points.Point) × points.IsPointText text p × (value ≡ v.Point p)
IsCell k.Period text value = (i : periods.Period) × periods.IsPeriodText text i × (value ≡ v.Period i)

-- the kind of a value
abbrev pub kind_of : Value → Kind
kind_of (v.Int n) = k.Int
kind_of (v.Text t) = k.Text
kind_of (v.Point p) = k.Date
kind_of (v.Period i) = k.Period

-- the one text that is written for a value
abbrev pub cell_text : Value → List ℕ
cell_text (v.Int n) = signed_decimal n
cell_text (v.Text t) = t
cell_text (v.Point p) = points.point_text p
cell_text (v.Period i) = periods.period_text i

-- the one text of a value on one day
abbrev pub fixed_text : FixedValue → List ℕ
fixed_text (f.Int n) = signed_decimal n
fixed_text (f.Text t) = t
fixed_text (f.Date a) = day_text a
fixed_text (f.Period p) = periods.bracketed (day_text p.start) (day_text p.end)

-- the numbers fit 64 bits, and the days are days of the calendar
abbrev pub IsFixed : FixedValue → Type 0
IsFixed (f.Int n) = FitsSigned w64 n
IsFixed (f.Text t) = ⊤
IsFixed (f.Date a) = IsExtDay a
IsFixed (f.Period p) = IsExtDay p.start × IsExtDay p.end
