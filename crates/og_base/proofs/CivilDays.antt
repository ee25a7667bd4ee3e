-- The civil days one after the other, and their numbers.
use Rattle.std.proofs.Common.{◌≡◌, ◌<◌, ◌≤◌, ◌+◌, inl, inr, ℕ, zero, suc, ℤ, pos, ◌+ℤ◌, nat_lt, refl, ap, ◌∙◌, arith, rules}
use Rattle.std.proofs.lemmas.Bool.{cases_lt, cond-true, cond-false}
use Rattle.std.proofs.lemmas.Bool.Decides.{nat_tests}
use Rattle.jiff_core.specs.Calendar.{IsCivilDate, days_from_civil, days_in_month}
use Rattle.jiff_core.proofs.SignedLemmas.{signed_arith}
use Rattle.jiff_core.proofs.CalendarLemmas.{days_in_month_bounds}
use Rattle.jiff_core.proofs.DateLemmas.{days_from_civil-day, days_from_civil-next_month, days_from_civil-next_year, days_from_civil-min, days_from_civil-max}
use Rattle.og_base.specs.Calendar.{CivilDay, civil_day, day_after, first_day}

-- the civil day is in the calendar, and its number is that of the nth day from the first
pub record IsNth (n : ℕ) (c : CivilDay) : Type 0 where
  pub civil : IsCivilDate c.year c.month c.day
  pub number : days_from_civil c.year c.month c.day ≡ first_day +ℤ pos n

next_day : (n : ℕ) (c : CivilDay) → IsNth n c → c.day < days_in_month c.year c.month → IsNth (suc n) (record { year = c.year; month = c.month; day = c.day + 1 })
next_day n c h less = record {
  civil = (h.civil.0, h.civil.1, (omega arith, omega arith));
  number = omega (arith, signed_arith, days_from_civil-day c.year c.month c.day (c.day + 1) h.civil.2.0 (omega arith), h.number);
}

next_month : (n : ℕ) (c : CivilDay) → IsNth n c → c.day ≡ days_in_month c.year c.month → c.month < 12 → IsNth (suc n) (record { year = c.year; month = c.month + 1; day = 1 })
next_month n c h last less =
    let long = days_in_month_bounds c.year (c.month + 1) in
    record {
      civil = (h.civil.0, (omega arith, omega arith), (omega arith, omega (arith, long.1)));
      number = omega (arith, signed_arith, days_from_civil-next_month c.year c.month c.day h.civil.1.0 last, h.number);
    }

last_of_year : (n : ℕ) (c : CivilDay) → IsNth n c → c.day ≡ days_in_month c.year c.month → c.month ≡ 12 → days_from_civil c.year 12 31 ≡ first_day +ℤ pos n
last_of_year n c h last december =
    let day : c.day ≡ 31 = last ∙ ap (days_in_month c.year) december in
    rw (december, day) at h.number

-- the day before the last of the calendar has a year after it
year_left : (n : ℕ) (y : ℤ) → days_from_civil y 12 31 ≡ first_day +ℤ pos n → suc n ≤ 7_304_483 → y ≡ pos 9999 → ⊥
year_left n y last before e = absurd (omega (arith, signed_arith, days_from_civil-max, rw e at last))

next_year : (n : ℕ) (c : CivilDay) → IsNth n c → days_from_civil c.year 12 31 ≡ first_day +ℤ pos n → suc n ≤ 7_304_483 → IsNth (suc n) (record { year = c.year +ℤ pos 1; month = 1; day = 1 })
next_year n c h last before =
    let left = year_left n c.year last before in
    record {
      civil = ((omega (arith, signed_arith, h.civil.0.0), omega (arith, signed_arith, h.civil.0.1, left)), (omega arith, omega arith), (omega arith, omega arith));
      number = omega (arith, signed_arith, days_from_civil-next_year c.year (c.year +ℤ pos 1) (omega (arith, signed_arith, h.civil.0.0)) refl, last);
    }

-- the day after the nth is the next
next_is : (n : ℕ) (c : CivilDay) → IsNth n c → suc n ≤ 7_304_483 → IsNth (suc n) (day_after c)
next_is n c h before =
    elim (cases_lt c.day (days_in_month c.year c.month)) [
      | inl less ↦ rw (cond-true (nat_lt c.day (days_in_month c.year c.month)) _ _ (grind (arith, nat_tests))) (next_day n c h less)
      | inr full ↦
          let last : c.day ≡ days_in_month c.year c.month = omega (arith, h.civil.2.1) in
          rw (cond-false (nat_lt c.day (days_in_month c.year c.month)) _ _ (grind (arith, nat_tests))) (elim (cases_lt c.month 12) [
            | inl less ↦ rw (cond-true (nat_lt c.month 12) _ _ (grind (arith, nat_tests))) (next_month n c h last less)
            | inr late ↦ rw (cond-false (nat_lt c.month 12) _ _ (grind (arith, nat_tests))) (next_year n c h (last_of_year n c h last (omega (arith, h.civil.1.1))) before)
          ])
    ]

-- each of the 7,304,484 days
pub civil_day_is : (n : ℕ) → n ≤ 7_304_483 → IsNth n (civil_day n)
unfolding civil_day
civil_day_is zero h = record { civil = ((search rules, search rules), (omega arith, omega arith), (omega arith, omega arith)); number = days_from_civil-min }
civil_day_is (suc n) h = next_is n (civil_day n) (civil_day_is n (omega arith)) h
