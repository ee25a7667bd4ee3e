-- The point texts and the period texts of the earlier calendar.
use Rattle.std.proofs.Common.{◌≡◌, ◌≤ℤ◌, ℕ, ℤ, inl, inr, List, Bool, true, false, refl, sym, ◌∙◌, arith}
use Rattle.std.specs.Prelude.{int_lt}
use Rattle.std.specs.Ordering.{int_eq}
use Rattle.std.proofs.lemmas.Bool.Decides.{Decides-int_eq}
use Rattle.std.proofs.lemmas.Int.{ints}
use Rattle.og_base.specs.Calendar.{IsRefDayText, before_all}
use Rattle.og_base.specs.OldTexts.{IsOldRefDayText, old_first, old_last, old_before, old_after, now_number}
use Rattle.og_base.proofs.BoundaryLemmas.{by_day, int_lt-yes, int_lt-no}
use Rattle.og_base.proofs.OldTexts.{IsDayText-old, IsOldRefDay-text, IsPlainDayText-old, now_number-kept, old_day-text, old_ref_day-text}
use Rattle.og_base.proofs.TextForms.{IsRefDayText-plain}
use Rattle.og_time.specs.OldTexts.{IsOldPoint, IsOldPointText, IsOldPeriod, IsOldPeriodText}
use Rattle.og_time.specs.Period.{Period, IsPeriodText, period_at}
use Rattle.og_time.specs.Point.{Point, IsPointText, point_at}

-- a number is that of -infinity, or it is kept
by_number : {P : Type 0} (n : ℤ) → (n ≡ old_before → now_number n ≡ before_all → P) → (now_number n ≡ n → P) → P
by_number {P} n f g = at (int_eq n old_before) refl
  where
    at : (t : Bool) → int_eq n old_before ≡ t → P
    at true e = f ((Decides-int_eq n old_before).0 e) (rw e refl)
    at false e = g (rw e refl)

-- a day of the earlier calendar is after the same numbers as before
after-now : (n d : ℤ) → old_first ≤ℤ d → int_lt (now_number n) d ≡ int_lt n d
after-now n d h =
    by_number n
    (λ same e. let a = int_lt-yes n d (omega (arith, ints, same, h)) in let b = int_lt-yes before_all d (omega (arith, ints, h)) in rw (e, a, b) refl)
    (λ e. rw e refl)

-- a day of the earlier calendar is before the same numbers as before
before-now : (n d : ℤ) → old_first ≤ℤ d → int_lt d (now_number n) ≡ int_lt d n
before-now n d h =
    by_number n
    (λ same e. let a = int_lt-no d n (omega (arith, ints, same, h)) in let b = int_lt-no d before_all (omega (arith, ints, h)) in rw (e, a, b) refl)
    (λ e. rw e refl)

-- the point with the numbers that its ends have now
abbrev now_point : Point → Point
now_point p = record { low = now_number p.low; high = now_number p.high }

-- on a day of the earlier calendar the value is the same, with the number that it has now
point_at-now : (p : Point) (d : ℤ) → old_first ≤ℤ d → point_at (now_point p) d ≡ now_number (point_at p d)
point_at-now p d h =
    let a = after-now p.low d h in
    let b = before-now p.high d h in
    by_day p.low d
    (λ _ e. by_day d p.high
    (λ _ f. let k = now_number-kept d h in rw (a, b, e, f, k) refl)
    (λ _ f. rw (a, b, e, f) refl))
    (λ _ e. rw (a, e) refl)

-- the text of a reference day of the earlier calendar, with the number that the day has now
ref_day_text-now : (text : List ℕ) (n : ℤ) → IsOldRefDayText text n → IsRefDayText text (now_number n)
ref_day_text-now text n is =
    rw (now_number-kept n (IsOldRefDay-text text n is).0) (IsRefDayText-plain text n (IsPlainDayText-old text n is))

-- a point text of the earlier calendar is a point text
point_text-now : (text : List ℕ) (p : Point) → IsOldPointText text p → IsPointText text (now_point p)
point_text-now text p (inl fixed) = inl (IsDayText-old text p.low fixed.0, rw fixed.1 refl)
point_text-now text p (inr (inl (is, low, high))) = inr (inl (is, rw low refl, rw high refl))
point_text-now text p (inr (inr (inl (day, is, low, high)))) = inr (inr (inl (day, is, ref_day_text-now day p.low low, rw high refl)))
point_text-now text p (inr (inr (inr (inl (day, is, low, high))))) = inr (inr (inr (inl (day, is, rw low refl, ref_day_text-now day p.high high))))
point_text-now text p (inr (inr (inr (inr (first, last, is, low, high, rises))))) =
    let a = now_number-kept p.low (IsOldRefDay-text first p.low low).0 in
    let b = now_number-kept p.high (IsOldRefDay-text last p.high high).0 in
    inr (inr (inr (inr (first, last, is, ref_day_text-now first p.low low, ref_day_text-now last p.high high, rw (a, b) rises))))

-- a point text of the earlier calendar is a point text, and its values are as they were
pub IsPointText-old : (text : List ℕ) (p : Point) → IsOldPointText text p
    → (q : Point) × IsPointText text q × ((d : ℤ) → old_first ≤ℤ d → d ≤ℤ old_last → point_at q d ≡ now_number (point_at p d))
IsPointText-old text p is = (now_point p, point_text-now text p is, λ d low _. point_at-now p d low)

-- a period text of the earlier calendar is a period text, and the ends of its values are as they were
pub IsPeriodText-old : (text : List ℕ) (i : Period) → IsOldPeriodText text i
    → (j : Period) × IsPeriodText text j
    × ((d : ℤ) → old_first ≤ℤ d → d ≤ℤ old_last
    → ((period_at j d).start ≡ now_number (period_at i d).start) × ((period_at j d).end ≡ now_number (period_at i d).end))
IsPeriodText-old text i (first, last, joined, start, end) = (
  record { start = now_point i.start; end = now_point i.end },
  (first, last, joined, point_text-now first i.start start, point_text-now last i.end end),
  λ d low _. (point_at-now i.start d low, point_at-now i.end d low),
)

-- each point of the earlier calendar has its text
pub old_point-text : (p : Point) → IsOldPoint p → (text : List ℕ) × IsOldPointText text p
old_point-text p is = at (int_eq p.low p.high) (int_eq p.low old_before) (int_eq p.high old_after) refl refl refl
  where
    same : (m n : ℤ) → int_eq m n ≡ true → m ≡ n
    same m n e = (Decides-int_eq m n).0 e

    other : (m n : ℤ) → int_eq m n ≡ false → m ≡ n → ⊥
    other m n e s = cc (sym ((Decides-int_eq m n).1 s) ∙ e)

    at : (fixed first last : Bool) → int_eq p.low p.high ≡ fixed → int_eq p.low old_before ≡ first → int_eq p.high old_after ≡ last → (text : List ℕ) × IsOldPointText text p
    at true first last e f g = let day = old_day-text p.low is.low_in in (day.0, inl (day.1, sym (same p.low p.high e)))
    at false true true e f g = (_, inr (inl (refl, same p.low old_before f, same p.high old_after g)))
    at false false true e f g =
        let apart = other p.low p.high e in
        let some = other p.low old_before f in
        let day = old_ref_day-text p.low (omega (arith, ints, some, is.low_in.0), omega (arith, ints, apart, is.ordered, is.high_in.1)) in
        (_, inr (inr (inl (day.0, refl, day.1, same p.high old_after g))))
    at false true false e f g =
        let apart = other p.low p.high e in
        let some = other p.high old_after g in
        let day = old_ref_day-text p.high (omega (arith, ints, apart, is.ordered, is.low_in.0), omega (arith, ints, some, is.high_in.1)) in
        (_, inr (inr (inr (inl (day.0, refl, same p.low old_before f, day.1)))))
    at false false false e f g =
        let apart = other p.low p.high e in
        let low = other p.low old_before f in
        let high = other p.high old_after g in
        let first = old_ref_day-text p.low (omega (arith, ints, low, is.low_in.0), omega (arith, ints, is.ordered, high, is.high_in.1)) in
        let last = old_ref_day-text p.high (omega (arith, ints, low, is.low_in.0, is.ordered), omega (arith, ints, high, is.high_in.1)) in
        (_, inr (inr (inr (inr (first.0, last.0, refl, first.1, last.1, omega (arith, ints, apart, is.ordered))))))

-- each period of the earlier calendar has its text
pub old_period-text : (i : Period) → IsOldPeriod i → (text : List ℕ) × IsOldPeriodText text i
old_period-text i is =
    let first = old_point-text i.start is.start_is in
    let last = old_point-text i.end is.end_is in
    (_, (first.0, last.0, refl, first.1, last.1))
