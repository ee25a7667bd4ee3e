-- Each text is the text of a day, or of none.
use Rattle.std.proofs.Common.{◌≡◌, ◌∙◌, ℕ, ℤ, neg_ℤ, pos, List, Result, Ok, Err, codes, refl, sym, ap, subst, inl, inr}
use Rattle.std.specs.Int.{IsInRange}
use Rattle.jiff_core.specs.Calendar.{IsBetween, IsCivilDate, days_in_month}
use Rattle.jiff_core.specs.Date.{epoch_day}
use Rattle.jiff_core.specs.declared.civil.date.Date.{Date}
use Rattle.jiff_core.specs.declared.error.Error.{Error}
use Rattle.jiff_fmt.specs.Text.{date_text}
use Rattle.jiff_fmt.specs.Temporal.{DateParts, date_parts, parse_date}
use Rattle.jiff_fmt.proofs.RoundTrip.{parse_date-date_text}
use Rattle.og_base.specs.Calendar.{IsDayText, IsRefDayText, before_all, after_all}
use Rattle.og_base.proofs.Choices.{Or, at_most, at_most_z, both, same_text, three}

in_range : (low high n : ℕ) → Or (IsInRange low high n)
in_range low high n = both (at_most low n) (at_most n high)

civil : (p : DateParts) → Or (IsCivilDate p.year p.month p.day)
civil p = three (both' p.year) (in_range 1 12 p.month) (in_range 1 (days_in_month p.year p.month) p.day)
  where
    both' : (y : ℤ) → Or (IsBetween (neg_ℤ (pos 9999)) (pos 9999) y)
    both' y = both (at_most_z (neg_ℤ (pos 9999)) y) (at_most_z y (pos 9999))

date_of : (p : DateParts) → IsCivilDate p.year p.month p.day → Date
date_of p h = record { year = p.year; month = p.month; day = p.day; year_in = h.0; month_in = h.1; day_in = h.2 }

parts_same : (p q : DateParts) (r : Result DateParts Error) → r ≡ Ok p → r ≡ Ok q → p ≡ q
parts_same p q r a b = cc (sym a ∙ b)

alike : (d e : Date) → d.year ≡ e.year → d.month ≡ e.month → d.day ≡ e.day → date_text d ≡ date_text e
alike d e y m n = rw (y, m, n) refl

IsOfDate : List ℕ → Type 0
IsOfDate text = (d : Date) × (text ≡ date_text d)

of_date : (text : List ℕ) → Or (IsOfDate text)
unfolding date_of IsOfDate
of_date text = by (parse_date text) refl
  where
    parts_of : (d : Date) (p : DateParts) → text ≡ date_text d → parse_date text ≡ Ok p → date_parts d ≡ p
    parts_of d p e is = parts_same (date_parts d) p (parse_date text) (ap parse_date e ∙ parse_date-date_text d) is

    has : (p : DateParts) → parse_date text ≡ Ok p → Or (IsCivilDate p.year p.month p.day) → Or (IsOfDate text)
    has p is (inr out) = inr (λ d. out (subst (λ (q : DateParts). IsCivilDate q.year q.month q.day) (parts_of d.0 p d.1 is) (d.0.year_in, d.0.month_in, d.0.day_in)))
    has p is (inl in_it) = at (same_text text (date_text (date_of p in_it)))
      where
        at : Or (text ≡ date_text (date_of p in_it)) → Or (IsOfDate text)
        at (inl same) = inl (date_of p in_it, same)
        at (inr other) = inr (λ d.
            let q = parts_of d.0 p d.1 is in
            other (d.1 ∙ alike d.0 (date_of p in_it) (ap (λ (q : DateParts). q.year) q) (ap (λ (q : DateParts). q.month) q) (ap (λ (q : DateParts). q.day) q)))

    by : (r : Result DateParts Error) → parse_date text ≡ r → Or (IsOfDate text)
    by (Ok p) is = has p is (civil p)
    by (Err e) is = inr (λ d. cc (sym is ∙ ap parse_date d.1 ∙ parse_date-date_text d.0))

pub ref_day : (text : List ℕ) → Or ((n : ℤ) × IsRefDayText text n)
unfolding IsOfDate
ref_day text = by (of_date text)
  where
    by : Or (IsOfDate text) → Or ((n : ℤ) × IsRefDayText text n)
    by (inl d) = inl (epoch_day d.0, (d.0, d.1, refl))
    by (inr none) = inr (λ h. none (h.1.0, h.1.1))

pub a_day : (text : List ℕ) → Or ((n : ℤ) × IsDayText text n)
a_day text = by (same_text text (codes "-infinity")) (same_text text (codes "infinity")) (ref_day text)
  where
    none : (text ≡ codes "-infinity" → ⊥) → (text ≡ codes "infinity" → ⊥) → ((n : ℤ) × IsRefDayText text n → ⊥) → (n : ℤ) → IsDayText text n → ⊥
    none x y z n (inl h) = x h.0
    none x y z n (inr (inl h)) = y h.0
    none x y z n (inr (inr h)) = z (n, h)

    by : Or (text ≡ codes "-infinity") → Or (text ≡ codes "infinity") → Or ((n : ℤ) × IsRefDayText text n) → Or ((n : ℤ) × IsDayText text n)
    by (inl first) b c = inl (before_all, inl (first, refl))
    by (inr x) (inl last) c = inl (after_all, inr (inl (last, refl)))
    by (inr x) (inr y) (inl ref) = inl (ref.0, inr (inr ref.1))
    by (inr x) (inr y) (inr z) = inr (λ h. none x y z h.0 h.1)
