-- Values whose texts tell them apart. Beside private functions alone.
use Rattle.std.specs.Prelude.{ℤ}
use Rattle.std.specs.List.{All}
use Rattle.og_base.specs.Calendar.{IsRefDay}
use Rattle.og_value.specs.Cells.{IsFixed}
use Rattle.og_value.specs.Values.{value_at}
use Rattle.og_value.specs.declared.value.Value.{Value}
use Rattle.og_db.specs.Database.{Relation}

-- the value is on each day a number of 64 bits, a text, or of days of the calendar
abbrev pub IsOfCalendar : Value → Type 0
IsOfCalendar value = (d : ℤ) → IsRefDay d → IsFixed (value_at value d)

-- so are the values of all rows
abbrev pub AreOfCalendar : Relation → Type 0
AreOfCalendar rel = All (λ p. All IsOfCalendar p.0) rel
