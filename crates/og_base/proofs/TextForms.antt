-- The form of day texts.
use Rattle.std.proofs.Common.{◌≡◌, ◌/◌, ◌%◌, ◌++◌, ℕ, suc, ℤ, pos, negsuc, List, [], ◌∷◌, ◌≤ℤ◌, unsigned_abs, subst, refl, sym, ap, ◌∙◌, arith}
use Rattle.std.proofs.lemmas.Int.{ints}
use Rattle.jiff_core.specs.Calendar.{IsCivilDate}
use Rattle.jiff_core.specs.declared.civil.date.Date.{Date}
use Rattle.jiff_core.proofs.DateLemmas.{civil}
use Rattle.jiff_fmt.specs.Text.{date_text, year_text, pad2, pad4}
use Rattle.og_base.specs.Calendar.{IsRefDayText}
use Rattle.og_base.specs.TextForms.{two_digits, four_digits, year_bytes, day_bytes, IsPlainDayText}

pad4-four_digits : (n : ℕ) → pad4 n ≡ four_digits n
pad4-four_digits n =
    let a : n / 100 / 10 ≡ n / 1000 = omega arith in
    let b : n % 100 / 10 ≡ n / 10 % 10 = omega arith in
    let c : n % 100 % 10 ≡ n % 10 = omega arith in
    rw (a, b, c) refl

year_text-year_bytes : (y : ℤ) → year_text y ≡ year_bytes y
year_text-year_bytes (pos n) = pad4-four_digits n
year_text-year_bytes (negsuc n) = ap (λ t. 45 ∷ 48 ∷ 48 ∷ t) (pad4-four_digits (suc n))

-- what jiff prints for a date
pub date_text-day_bytes : (d : Date) → date_text d ≡ day_bytes d.year d.month d.day
date_text-day_bytes d = by d.year
  where
    by : (y : ℤ) → year_text y ++ 45 ∷ [] ++ pad2 d.month ++ 45 ∷ [] ++ pad2 d.day ≡ day_bytes y d.month d.day
    by (pos n) = ap (λ t. t ++ 45 ∷ two_digits d.month ++ 45 ∷ two_digits d.day) (year_text-year_bytes (pos n))
    by (negsuc n) = ap (λ t. t ++ 45 ∷ two_digits d.month ++ 45 ∷ two_digits d.day) (year_text-year_bytes (negsuc n))

pub IsPlainDayText-ref_day : (text : List ℕ) (n : ℤ) → IsRefDayText text n → IsPlainDayText text n
IsPlainDayText-ref_day text n h = (h.0.year, h.0.month, h.0.day, civil h.0, h.1 ∙ date_text-day_bytes h.0, h.2)

-- the date of a civil day
abbrev pub date_of : (y : ℤ) (m d : ℕ) → IsCivilDate y m d → Date
date_of y m d h = record { year = y; month = m; day = d; year_in = h.0; month_in = h.1; day_in = h.2 }

pub IsRefDayText-plain : (text : List ℕ) (n : ℤ) → IsPlainDayText text n → IsRefDayText text n
IsRefDayText-plain text n (y, m, d, h, bytes, number) = (date_of y m d h, bytes ∙ sym (date_text-day_bytes (date_of y m d h)), number)

-- the ten bytes of a day in a year from 0 on, by the number of the year
pub ten-day_bytes : (y : ℤ) (k m d : ℕ) → pos k ≡ y → four_digits k ++ 45 ∷ two_digits m ++ 45 ∷ two_digits d ≡ day_bytes y m d
ten-day_bytes y k m d is = subst (λ z. four_digits k ++ 45 ∷ two_digits m ++ 45 ∷ two_digits d ≡ day_bytes z m d) is refl

-- a number from 0 on is its size
pub whole : (y : ℤ) (k : ℕ) → pos 0 ≤ℤ y → k ≡ unsigned_abs y → pos k ≡ y
whole (pos n) k from is = ap pos is
whole (negsuc n) k from is = absurd (omega (arith, ints, from))
