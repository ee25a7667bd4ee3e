-- The calendar: which days there are, their numbers, and their texts.
use Rattle.std.specs.Prelude.{◌≡◌, ◌⊎◌, ◌+◌, ◌-ℤ◌, ◌+ℤ◌, ◌++◌, ℕ, zero, suc, ℤ, pos, neg_ℤ, List, [], ◌∷◌, codes, nat_lt, unsigned_abs, if◌then◌else◌}
use Rattle.std.specs.Ordering.{int_eq}
use Rattle.jiff_core.specs.Calendar.{IsBetween, days_in_month}
use Rattle.jiff_core.specs.Date.{epoch_day}
use Rattle.jiff_core.specs.declared.civil.date.Date.{Date}
use Rattle.jiff_fmt.specs.Text.{date_text, year_text, pad2}

-- -9999-01-01, counted from 1970-01-01
abbrev pub first_day : ℤ
first_day = neg_ℤ (pos 4_371_587)

-- 9999-12-31
abbrev pub last_day : ℤ
last_day = pos 2_932_896

-- -infinity
abbrev pub before_all : ℤ
before_all = neg_ℤ (pos 4_371_588)

-- infinity
abbrev pub after_all : ℤ
after_all = pos 2_932_897

-- a reference day: a civil day of the years -9999 to 9999
abbrev pub IsRefDay : ℤ → Type 0
IsRefDay n = IsBetween first_day last_day n

-- an extended day: a reference day, -infinity or infinity
abbrev pub IsExtDay : ℤ → Type 0
IsExtDay n = IsBetween before_all after_all n

-- the day text of a reference day: what jiff prints for a civil day, with the number that jiff gives that day
abbrev pub IsRefDayText : List ℕ → ℤ → Type 0
IsRefDayText text n = (d : Date) × (text ≡ date_text d) × (n ≡ epoch_day d)

-- a day text, and the number of its day
abbrev pub IsDayText : List ℕ → ℤ → Type 0
IsDayText text n =
    ((text ≡ codes "-infinity") × (n ≡ before_all))
    ⊎ (((text ≡ codes "infinity") × (n ≡ after_all)) ⊎ IsRefDayText text n)

-- a day of a month of a year
pub record CivilDay : Type 0 where
  pub year : ℤ
  pub month : ℕ
  pub day : ℕ

-- the day after: in the same month, else the first of the next month, else the first of the next year
abbrev pub day_after : CivilDay → CivilDay
day_after c =
    if nat_lt c.day (days_in_month c.year c.month) then record { year = c.year; month = c.month; day = c.day + 1 }
    else (if nat_lt c.month 12 then record { year = c.year; month = c.month + 1; day = 1 }
    else record { year = c.year +ℤ pos 1; month = 1; day = 1 })

-- the civil day so many days after -9999-01-01
unfoldable pub civil_day : ℕ → CivilDay
civil_day zero = record { year = neg_ℤ (pos 9999); month = 1; day = 1 }
civil_day (suc n) = day_after (civil_day n)

-- year, month and day with a dash between them
abbrev pub civil_text : CivilDay → List ℕ
civil_text c = year_text c.year ++ 45 ∷ [] ++ pad2 c.month ++ 45 ∷ [] ++ pad2 c.day

-- the one text of an extended day
unfoldable pub day_text : ℤ → List ℕ
day_text n =
    if int_eq n before_all then codes "-infinity"
    else (if int_eq n after_all then codes "infinity"
    else civil_text (civil_day (unsigned_abs (n -ℤ first_day))))
