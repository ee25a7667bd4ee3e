-- The set texts of the earlier calendar.
use Rattle.std.proofs.Common.{◌≡◌, ◌≤ℤ◌, ◌<ℤ◌, ℕ, ℤ, codes, inl, inr, List, [], ◌∷◌, ◌++◌, Bool, true, false, cond, refl, sym, ap, ap₂, subst, ◌∙◌, ◌||◌, arith}
use Rattle.std.specs.Ordering.{int_eq}
use Rattle.std.proofs.lemmas.Bool.Decides.{Decides-int_eq}
use Rattle.std.proofs.lemmas.Int.{ints}
use Rattle.og_base.specs.Calendar.{IsRefDayText, IsRefDay, IsExtDay, day_text, first_day}
use Rattle.og_base.specs.Ranges.{Range, IsRange, IsNormal, BeginAfter, in_range, holds_day}
use Rattle.og_base.specs.SetTexts.{lower_text, range_text, ranges_text, set_text}
use Rattle.og_base.specs.OldTexts.{old_first, old_last, old_before, old_after, IsOldRefDayText, IsOldLowerText, IsOldUpperText, IsOldRangeText, IsOldRangesText, IsOldSetText}
use Rattle.og_base.proofs.BoundaryLemmas.{int_lt-no}
use Rattle.og_base.proofs.DayTexts.{civil_in_range, text_is}
use Rattle.og_base.proofs.OldTexts.{IsOldRefDay-text, old_ref_day-text, IsPlainDayText-old}
use Rattle.og_base.proofs.SetTexts.{ext_day, lower_text_is}
use Rattle.og_base.proofs.TextForms.{IsRefDayText-plain}

-- the lower end that the text has now
abbrev now_lower : ℤ → ℤ
now_lower n = cond (int_eq n old_first) first_day n

by_old : {P : Type 0} (n : ℤ) → (n ≡ old_first → now_lower n ≡ first_day → P) → ((n ≡ old_first → ⊥) → now_lower n ≡ n → P) → P
by_old {P} n f g = at (int_eq n old_first) refl
  where
    at : (t : Bool) → int_eq n old_first ≡ t → P
    at true e = f ((Decides-int_eq n old_first).0 e) (rw e refl)
    at false e = g (λ same. cc (sym ((Decides-int_eq n old_first).1 same) ∙ e)) (rw e refl)

ref_day_text-old : (text : List ℕ) (n : ℤ) → IsOldRefDayText text n → IsRefDayText text n
ref_day_text-old text n is = IsRefDayText-plain text n (IsPlainDayText-old text n is)

-- a lower end of the earlier calendar
pub record IsNowLower (text : List ℕ) (n : ℤ) : Type 0 where
  pub ref_day : IsRefDay (now_lower n)
  pub text_now : text ≡ lower_text (now_lower n)
  pub later : old_first ≤ℤ n
  pub lower : now_lower n ≤ℤ n

lower_now : (text : List ℕ) (n : ℤ) → IsOldLowerText text n → IsNowLower text n
lower_now text n (inl (e, same)) = subst (IsNowLower text) (sym same) (record {
  ref_day = (omega (arith, ints), omega (arith, ints));
  text_now = e;
  later = omega (arith, ints);
  lower = omega (arith, ints);
})
lower_now text n (inr (is, other)) =
    let range = IsOldRefDay-text text n is in
    let day = ref_day_text-old text n is in
    let kept : now_lower n ≡ n = by_old n (λ same _. absurd (other same)) (λ _ e. e) in
    record {
      ref_day = rw kept (civil_in_range text n day);
      text_now = lower_text_is text n (λ same. omega (arith, ints, same, range.0)) day ∙ ap lower_text (sym kept);
      later = range.0;
      lower = omega (arith, ints, kept);
    }

upper_now : (text : List ℕ) (n : ℤ) → IsOldUpperText text n → IsExtDay n × (text ≡ day_text n)
upper_now text n (inl (e, same)) =
    let ext : IsExtDay n = (omega (arith, ints, same), omega (arith, ints, same)) in
    (ext, text_is text n ext (inr (inl (e, same))))
upper_now text n (inr is) =
    let day = ref_day_text-old text n is in
    let ext = ext_day n (civil_in_range text n day) in
    (ext, text_is text n ext (inr (inr day)))

-- the range that the text has now
abbrev now_range : Range → Range
now_range r = record { lo = now_lower r.lo; hi = r.hi }

range_now : (text : List ℕ) (r : Range) → IsOldRangeText text r → IsRange (now_range r) × (text ≡ range_text (now_range r)) × (old_first ≤ℤ r.lo)
range_now text r h =
    let lo = lower_now h.lower r.lo h.lo in
    let hi = upper_now h.upper r.hi h.hi in (
      record { lo_in = lo.ref_day; hi_in = hi.0; some = omega (arith, ints, lo.lower, h.some) },
      h.joined ∙ ap₂ (λ x y. 91 ∷ x ++ (44 ∷ y ++ 41 ∷ [])) lo.text_now hi.1,
      lo.later,
    )

abbrev now_ranges : List Range → List Range
now_ranges [] = []
now_ranges (r ∷ rs) = now_range r ∷ now_ranges rs

ranges_now : (text : List ℕ) (s : List Range) → IsOldRangesText text s → IsNormal (now_ranges s) × (text ≡ ranges_text (now_ranges s))
ranges_now text [] h = (tt, h)
ranges_now text (r ∷ []) h = let now = range_now text r h in ((now.0, tt, tt), now.1)
ranges_now text (r ∷ (q ∷ rs)) (first, rest, h, rises, more, joined) =
    let now = range_now first r h in
    let others = ranges_now rest (q ∷ rs) more in
    let kept : now_lower q.lo ≡ q.lo = by_old q.lo (λ same _. absurd (omega (arith, ints, same, rises, h.some, now.2))) (λ _ e. e) in
    ((now.0, rw kept rises, others.0), joined ∙ ap₂ (λ x y. x ++ 44 ∷ y) now.1 others.1)

in_range-now : (r : Range) (d : ℤ) → old_first ≤ℤ d → in_range r d ≡ in_range (now_range r) d
in_range-now r d h =
    by_old r.lo
    (λ same e. let a = int_lt-no d r.lo (omega (arith, ints, same, h)) in let b = int_lt-no d first_day (omega (arith, ints, h)) in rw (e, a, b) refl)
    (λ _ e. rw e refl)

holds_day-now : (s : List Range) (d : ℤ) → old_first ≤ℤ d → holds_day s d ≡ holds_day (now_ranges s) d
holds_day-now [] d h = refl
holds_day-now (r ∷ rs) d h = ap₂ (λ x y. x || y) (in_range-now r d h) (holds_day-now rs d h)

-- a set text of the earlier calendar is a set text, and the sets hold the same days of that calendar
pub set_text-old : (text : List ℕ) (s : List Range) → IsOldSetText text s
    → (t : List Range) × IsNormal t × (text ≡ set_text t) × ((d : ℤ) → old_first ≤ℤ d → d ≤ℤ old_last → holds_day s d ≡ holds_day t d)
set_text-old text s (ranges, is, joined) =
    let now = ranges_now ranges s is in
    (now_ranges s, now.0, joined ∙ ap (λ x. 123 ∷ x ++ 125 ∷ []) now.1, λ d low _. holds_day-now s d low)

-- each lower end has its text
old_lower-text : (n : ℤ) → old_first ≤ℤ n → n ≤ℤ old_last → (text : List ℕ) × IsOldLowerText text n
old_lower-text n low high =
    by_old n
    (λ same _. (codes "-infinity", inl (refl, same)))
    (λ other _. let day = old_ref_day-text n (low, high) in (day.0, inr (day.1, other)))

-- each upper end has its text
old_upper-text : (n : ℤ) → old_first ≤ℤ n → n ≤ℤ old_after → (text : List ℕ) × IsOldUpperText text n
old_upper-text n low high = at (int_eq n old_after) refl
  where
    at : (t : Bool) → int_eq n old_after ≡ t → (text : List ℕ) × IsOldUpperText text n
    at true e = (codes "infinity", inl (refl, (Decides-int_eq n old_after).0 e))
    at false e =
        let other : n ≡ old_after → ⊥ = λ same. cc (sym ((Decides-int_eq n old_after).1 same) ∙ e) in
        let day = old_ref_day-text n (low, omega (arith, ints, other, high)) in
        (day.0, inr day.1)

-- each range from 0001-01-01 on has its text
old_range-text : (r : Range) → IsRange r → old_before <ℤ r.lo → (text : List ℕ) × IsOldRangeText text r
old_range-text r is late =
    let lower = old_lower-text r.lo (omega (arith, ints, late)) is.lo_in.1 in
    let upper = old_upper-text r.hi (omega (arith, ints, late, is.some)) is.hi_in.1 in
    (_, record { lower = lower.0; upper = upper.0; lo = lower.1; hi = upper.1; some = is.some; joined = refl })

old_ranges-text : (s : List Range) → IsNormal s → BeginAfter old_before s → (text : List ℕ) × IsOldRangesText text s
old_ranges-text [] is late = ([], refl)
old_ranges-text (r ∷ []) is late = old_range-text r is.0 late
old_ranges-text (r ∷ (q ∷ rs)) is late =
    let first = old_range-text r is.0 late in
    let rest = old_ranges-text (q ∷ rs) is.2 (omega (arith, ints, late, is.0.some, is.1)) in
    (_, (first.0, rest.0, first.1, is.1, rest.1, refl))

-- each set of days of the earlier calendar has its text
pub old_set-text : (s : List Range) → IsNormal s → BeginAfter old_before s → (text : List ℕ) × IsOldSetText text s
old_set-text s is late = let ranges = old_ranges-text s is late in (_, (ranges.0, ranges.1, refl))
