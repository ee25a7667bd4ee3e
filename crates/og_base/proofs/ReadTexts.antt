-- What jiff reads of a text that it prints.
use Rattle.std.proofs.Common.{◌≡◌, ℕ, List, Result, Ok, Err, ap, ◌∙◌, sym, refl, Bool, true, false, not, ℤ}
use Rattle.jiff_core.specs.Date.{epoch_day}
use Rattle.jiff_core.specs.declared.civil.date.Date.{Date}
use Rattle.jiff_core.proofs.DateLemmas.{epoch_day_same}
use Rattle.og_base.specs.Calendar.{IsRefDayText}
use Rattle.jiff_core.specs.declared.error.Error.{Error}
use Rattle.jiff_fmt.specs.Text.{date_text}
use Rattle.jiff_fmt.specs.Temporal.{DateParts, date_parts, date_view, parse_date}
use Rattle.jiff_fmt.proofs.RoundTrip.{parse_date-date_text}

the_ok : DateParts → Result DateParts Error
the_ok p = Ok p

same_parts : (date d : Date) → the_ok (date_parts date) ≡ Ok (date_parts d) → date_parts date ≡ date_parts d
unfolding the_ok
same_parts date d h = cc

-- the parts of a text that a date prints
read_parts : (text : List ℕ) (date d : Date) → text ≡ date_text d → date_view (Ok date) ≡ parse_date text → date_parts date ≡ date_parts d
unfolding the_ok
read_parts text date d e h = same_parts date d (h ∙ (ap parse_date e ∙ parse_date-date_text d))

same_text : (date d : Date) → date.year ≡ d.year → date.month ≡ d.month → date.day ≡ d.day → date_text date ≡ date_text d
same_text date d y m n = rw (y, m, n) refl

-- what is read prints as it was
pub read_text : (text : List ℕ) (date d : Date) → text ≡ date_text d → date_view (Ok date) ≡ parse_date text → date_text date ≡ text
read_text text date d e h =
    let p = read_parts text date d e h in
    same_text date d (ap (λ (q : DateParts). q.year) p) (ap (λ (q : DateParts). q.month) p) (ap (λ (q : DateParts). q.day) p) ∙ sym e

-- a text that is printed is read
pub printed_is_read : (text : List ℕ) (d : Date) (e : Error) → text ≡ date_text d → date_view (Err e) ≡ parse_date text → ⊥
printed_is_read text d e t h = let k = h ∙ (ap parse_date t ∙ parse_date-date_text d) in cc

pub not_false : (b : Bool) → not b ≡ false → b ≡ true
not_false true h = refl
not_false false h = cc

pub not_true : (b : Bool) → not b ≡ true → b ≡ true → ⊥
not_true true h k = cc
not_true false h k = cc

-- dates with one text have one number
number-date_text : (d e : Date) → date_text d ≡ date_text e → epoch_day d ≡ epoch_day e
unfolding the_ok
number-date_text d e h =
    let p = same_parts d e (sym (parse_date-date_text d) ∙ ap parse_date h ∙ parse_date-date_text e) in
    epoch_day_same d e (ap (λ (q : DateParts). q.year) p) (ap (λ (q : DateParts). q.month) p) (ap (λ (q : DateParts). q.day) p)

-- a text is of one reference day at most
pub one_ref_day : (text : List ℕ) (m n : ℤ) → IsRefDayText text m → IsRefDayText text n → m ≡ n
one_ref_day text m n h k = h.2 ∙ number-date_text h.0 k.0 (sym h.1 ∙ k.1) ∙ sym k.2
