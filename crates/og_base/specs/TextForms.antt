-- The form of day texts, byte by byte.
use Rattle.std.specs.Prelude.{◌≡◌, ◌+◌, ◌/◌, ◌%◌, ◌++◌, ℕ, suc, ℤ, pos, negsuc, List, [], ◌∷◌}
use Rattle.jiff_core.specs.Calendar.{IsCivilDate, days_from_civil}

-- a number below 100 in two digits
abbrev pub two_digits : ℕ → List ℕ
two_digits n = (48 + n / 10) ∷ (48 + n % 10) ∷ []

-- a number below 10000 in four digits
abbrev pub four_digits : ℕ → List ℕ
four_digits n = (48 + n / 1000) ∷ (48 + n / 100 % 10) ∷ (48 + n / 10 % 10) ∷ (48 + n % 10) ∷ []

-- from the year 0 on four digits; before it a dash and six digits of the number without its sign
abbrev pub year_bytes : ℤ → List ℕ
year_bytes (pos k) = four_digits k
year_bytes (negsuc k) = 45 ∷ 48 ∷ 48 ∷ four_digits (suc k)

-- the year, a dash, the month, a dash, the day
abbrev pub day_bytes : ℤ → ℕ → ℕ → List ℕ
day_bytes y m d = year_bytes y ++ 45 ∷ two_digits m ++ 45 ∷ two_digits d

-- the text names a civil day, of which n is the number that jiff gives it
abbrev pub IsPlainDayText : List ℕ → ℤ → Type 0
IsPlainDayText text n =
    (y : ℤ) × (m : ℕ) × (d : ℕ) × IsCivilDate y m d × (text ≡ day_bytes y m d) × (n ≡ days_from_civil y m d)
