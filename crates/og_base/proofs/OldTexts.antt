-- The day texts of the earlier calendar.
use Rattle.std.proofs.Common.{◌≡◌, ◌≤ℤ◌, ◌<ℤ◌, ℕ, zero, suc, ℤ, pos, negsuc, inl, inr, List, codes, Bool, true, false, cond, refl, sym, ◌∙◌, subst, arith, rules}
use Rattle.std.specs.Ordering.{int_eq}
use Rattle.std.proofs.lemmas.Bool.Decides.{Decides-int_eq}
use Rattle.jiff_core.specs.Calendar.{IsBetween, IsCivilDate, days_from_civil}
use Rattle.jiff_core.specs.Date.{epoch_day}
use Rattle.jiff_core.specs.declared.civil.date.Date.{Date}
use Rattle.jiff_core.proofs.SignedLemmas.{signed_arith}
use Rattle.jiff_core.proofs.DateLemmas.{epoch_day-lt, epoch_day_same, epoch_day_range, cases_date, civil}
use Rattle.jiff_core.proofs.CalendarLemmas.{days_from_civil-day_count}
use Rattle.jiff_core.proofs.MarchLemmas.{day_count-early}
use Rattle.og_base.specs.Calendar.{IsDayText, before_all}
use Rattle.og_base.specs.TextForms.{IsPlainDayText}
use Rattle.og_base.specs.OldTexts.{IsOldDay, IsOldDayText, IsOldRefDayText, old_first, old_last, old_before, old_after, now_number}
use Rattle.og_base.proofs.DayTexts.{ref_day_text_is}
use Rattle.og_base.proofs.TextForms.{date_of, IsRefDayText-plain}

pub days_from_civil-first : days_from_civil (pos 1) 1 1 ≡ old_first
days_from_civil-first = omega (arith, signed_arith, days_from_civil-day_count, day_count-early (pos 1) 10000 1 1 refl (omega arith) (omega arith) (omega arith))

-- 0001-01-01
first_date : Date
first_date = date_of (pos 1) 1 1 (search rules)

-- no day of a year from 1 on is before 0001-01-01
old_first-least : (d : Date) → pos 1 ≤ℤ d.year → old_first ≤ℤ epoch_day d
unfolding first_date
old_first-least d h =
    elim (cases_date d first_date) [
      | inl (inl year) ↦ absurd (omega (arith, signed_arith, year, h))
      | inl (inr (year, inl month)) ↦ absurd (omega (arith, month, d.month_in.0))
      | inl (inr (year, inr day)) ↦ absurd (omega (arith, day.1, d.day_in.0))
      | inr (inl later) ↦ omega (arith, signed_arith, days_from_civil-first, epoch_day-lt first_date d later)
      | inr (inr same) ↦ omega (arith, signed_arith, days_from_civil-first, epoch_day_same d first_date same.0 same.1 same.2)
    ]

-- no day of a year before 1 is 0001-01-01 or after it
old_first-later : (y : ℤ) (m d : ℕ) → IsCivilDate y m d → y ≤ℤ pos 0 → days_from_civil y m d <ℤ old_first
unfolding first_date
old_first-later y m d is early =
    omega (arith, signed_arith, days_from_civil-first, epoch_day-lt (date_of y m d is) first_date (inl (omega (arith, signed_arith, early))))

-- a civil day from 0001-01-01 on has its text
civil_day-text : (y : ℤ) (m d : ℕ) → IsCivilDate y m d → old_first ≤ℤ days_from_civil y m d → (text : List ℕ) × IsOldRefDayText text (days_from_civil y m d)
civil_day-text (pos zero) m d is late = let early = old_first-later (pos zero) m d is (omega (arith, signed_arith)) in absurd (omega (arith, signed_arith, early, late))
civil_day-text (pos (suc y)) m d is late = (_, (suc y, m, d, omega arith, is, refl, refl))
civil_day-text (negsuc y) m d is late = let early = old_first-later (negsuc y) m d is (omega (arith, signed_arith)) in absurd (omega (arith, signed_arith, early, late))

-- each reference day of the earlier calendar has its text
pub old_ref_day-text : (n : ℤ) → IsBetween old_first old_last n → (text : List ℕ) × IsOldRefDayText text n
old_ref_day-text n h =
    let (date, _, same) = ref_day_text_is n (omega (arith, signed_arith, h.0), h.1) in
    let old = civil_day-text date.year date.month date.day (civil date) (rw same at h.0) in
    (old.0, subst (IsOldRefDayText old.0) (sym same) old.1)

-- each day of the earlier calendar has its text
pub old_day-text : (n : ℤ) → IsOldDay n → (text : List ℕ) × IsOldDayText text n
old_day-text n h = at (int_eq n old_before) (int_eq n old_after) refl refl
  where
    at : (first last : Bool) → int_eq n old_before ≡ first → int_eq n old_after ≡ last → (text : List ℕ) × IsOldDayText text n
    at true last e f = (codes "-infinity", inl (refl, (Decides-int_eq n old_before).0 e))
    at false true e f = (codes "infinity", inr (inl (refl, (Decides-int_eq n old_after).0 f)))
    at false false e f =
        let low : n ≡ old_before → ⊥ = λ same. cc (sym ((Decides-int_eq n old_before).1 same) ∙ e) in
        let high : n ≡ old_after → ⊥ = λ same. cc (sym ((Decides-int_eq n old_after).1 same) ∙ f) in
        let old = old_ref_day-text n (omega (arith, signed_arith, low, h.0), omega (arith, signed_arith, high, h.1)) in
        (old.0, inr (inr old.1))

-- the days of the earlier calendar
pub IsOldRefDay-text : (text : List ℕ) (n : ℤ) → IsOldRefDayText text n → IsBetween old_first old_last n
IsOldRefDay-text text n (y, m, d, low, is, bytes, number) =
    let date = date_of (pos y) m d is in
    rw number (old_first-least date (omega (arith, signed_arith, low)), (epoch_day_range date).1)

pub IsPlainDayText-old : (text : List ℕ) (n : ℤ) → IsOldRefDayText text n → IsPlainDayText text n
IsPlainDayText-old text n (y, m, d, low, is, bytes, number) = (pos y, m, d, is, bytes, number)

-- the days of the earlier calendar keep their numbers
pub now_number-kept : (n : ℤ) → old_first ≤ℤ n → now_number n ≡ n
now_number-kept n h = by (int_eq n old_before) refl
  where
    by : (b : Bool) → int_eq n old_before ≡ b → cond b before_all n ≡ n
    by true e = let same = (Decides-int_eq n old_before).0 e in absurd (omega (arith, signed_arith, h, same))
    by false e = refl

-- a day text of the earlier calendar is a day text now
pub IsDayText-old : (text : List ℕ) (n : ℤ) → IsOldDayText text n → IsDayText text (now_number n)
IsDayText-old text n (inl h) = rw h.1 (inl (h.0, refl))
IsDayText-old text n (inr (inl h)) = rw h.1 (inr (inl (h.0, refl)))
IsDayText-old text n (inr (inr h)) =
    rw (now_number-kept n (IsOldRefDay-text text n h).0) (inr (inr (IsRefDayText-plain text n (IsPlainDayText-old text n h))))
