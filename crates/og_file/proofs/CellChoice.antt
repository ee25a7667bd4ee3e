-- Each text is a cell of a kind, or none.
use Rattle.std.proofs.Common.{◌≡◌, ◌⊎◌, ◌+◌, ◌<◌, ◌<ℤ◌, ◌^◌, ◌++◌, ◌∷◌, [], ◌∙◌, ℕ, ℤ, List, length, codes, refl, inl, inr}
use Rattle.std.specs.Prelude.{FitsSigned, slice_index}
use Rattle.std.specs.Int.{w64}
use Rattle.std.specs.Int.Signed.{mag}
use Rattle.std.specs.Str.{IsUtf8}
use Rattle.std.specs.Str.Parse.{AllDigits, signed_digits_value, without_leading_sign}
use Rattle.og_base.specs.Bytes.{Lacks, IsCutAt}
use Rattle.og_base.specs.Calendar.{IsDayText, IsRefDayText, before_all, after_all}
use Rattle.og_base.proofs.Choices.{Or, cut_or_lacks, digits, ends_with, less, less_z, number, same_text, utf8}
use Rattle.og_base.proofs.DayChoice.{a_day, ref_day}
use Rattle.og_time.specs.Point.{Point, IsPointText, IsEndText, AreEndTexts, IsWholeText}
use Rattle.og_time.specs.Period.{Period, IsPeriodText}
use Rattle.og_time.proofs.PointTexts.{ends_are_texts, texts_are_ends, texts_are_whole, no_ends}
use Rattle.og_time.proofs.PeriodTexts.{bracketed-cut, texts_are_sides, sides_are_texts, cut_is_sides, no_sides}
use Rattle.og_value.specs.Cells.{IsCell, IsIntText}
use Rattle.og_value.specs.declared.kind.Kind.{Kind}
use Rattle.og_value.specs.declared.kind.Kind.TheVariants as k
use Rattle.og_value.specs.declared.value.Value.{Value}
use Rattle.og_value.specs.declared.value.Value.TheVariants as v

-- ---- points

an_end : (text : List ℕ) (open_end : ℤ) → Or ((n : ℤ) × IsEndText text open_end n)
an_end text open_end = by (same_text text []) (ref_day text)
  where
    neither : (text ≡ [] → ⊥) → ((n : ℤ) × IsRefDayText text n → ⊥) → (n : ℤ) → IsEndText text open_end n → ⊥
    neither some out n (inl h) = some h.0
    neither some out n (inr h) = out (n, h)

    by : Or (text ≡ []) → Or ((n : ℤ) × IsRefDayText text n) → Or ((n : ℤ) × IsEndText text open_end n)
    by (inl none) r = inl (open_end, inl (none, refl))
    by (inr some) (inl ref) = inl (ref.0, inr ref.1)
    by (inr some) (inr out) = inr (λ h. neither some out h.0 h.1)

ends : (low high : List ℕ) → Or ((p : Point) × AreEndTexts low high p)
ends low high = by (an_end low before_all) (an_end high after_all) (less 0 (length low + length high))
  where
    rising : (a : (n : ℤ) × IsEndText low before_all n) (b : (n : ℤ) × IsEndText high after_all n) → 0 < length low + length high → Or (a.0 <ℤ b.0) → Or ((p : Point) × AreEndTexts low high p)
    rising a b some (inl up) = inl (record { low = a.0; high = b.0 }, record { low_end = a.1; high_end = b.1; rising = up; some = some })
    rising a b some (inr out) = inr (λ h. no_ends low high a.0 b.0 h.0 a.1 b.1 out h.1)

    by : Or ((n : ℤ) × IsEndText low before_all n) → Or ((n : ℤ) × IsEndText high after_all n) → Or (0 < length low + length high) → Or ((p : Point) × AreEndTexts low high p)
    by (inl a) (inl b) (inl some) = rising a b some (less_z a.0 b.0)
    by (inr out) b some = inr (λ h. out (h.0.low, h.1.low_end))
    by (inl a) (inr out) some = inr (λ h. out (h.0.high, h.1.high_end))
    by (inl a) (inl b) (inr out) = inr (λ h. out h.1.some)

a_point : (text : List ℕ) → Or ((p : Point) × IsPointText text p)
a_point text = by (cut_or_lacks 43 text)
  where
    has : (low high : List ℕ) → IsCutAt 43 text low high → Or ((p : Point) × AreEndTexts low high p) → Or ((p : Point) × IsPointText text p)
    has low high cut (inl p) = inl (p.0, ends_are_texts text low high p.0 cut.joined p.1)
    has low high cut (inr out) = inr (λ h. out (h.0, texts_are_ends text low high h.0 cut h.1))

    neither : ((n : ℤ) × IsDayText text n → ⊥) → (text ≡ codes "now" → ⊥) → (p : Point) → IsWholeText text p → ⊥
    neither x y p (inl fixed) = x (p.low, fixed.0)
    neither x y p (inr now) = y now.0

    whole : Lacks 43 text → Or ((n : ℤ) × IsDayText text n) → Or (text ≡ codes "now") → Or ((p : Point) × IsPointText text p)
    whole lacks (inl d) now = inl (record { low = d.0; high = d.0 }, inl (d.1, refl))
    whole lacks (inr x) (inl now) = inl (record { low = before_all; high = after_all }, inr (inl (now, refl, refl)))
    whole lacks (inr x) (inr y) = inr (λ h. neither x y h.0 (texts_are_whole text h.0 lacks h.1))

    by : ((low : List ℕ) × (high : List ℕ) × IsCutAt 43 text low high) ⊎ Lacks 43 text → Or ((p : Point) × IsPointText text p)
    by (inl cut) = has cut.0 cut.1 cut.2 (ends cut.0 cut.1)
    by (inr lacks) = whole lacks (a_day text) (same_text text (codes "now"))

-- ---- periods

inside : (text : List ℕ) → Or ((within : List ℕ) × (text ≡ codes "[" ++ within ++ codes ")"))
inside [] = inr (λ h. cc h.1)
inside (x ∷ xs) = by (number x 91) (ends_with (41 ∷ []) xs)
  where
    by : Or (x ≡ 91) → Or ((front : List ℕ) × (xs ≡ front ++ 41 ∷ [])) → Or ((within : List ℕ) × (x ∷ xs ≡ codes "[" ++ within ++ codes ")"))
    by (inl same) (inl f) = inl (f.0, rw (same, f.1) refl)
    by (inr out) f = inr (λ h. out (let same : x ≡ 91 = cc h.1 in same))
    by (inl same) (inr out) = inr (λ h. out (h.0, let rest : xs ≡ h.0 ++ 41 ∷ [] = cc h.1 in rest))

a_period : (text : List ℕ) → Or ((i : Period) × IsPeriodText text i)
a_period text = by (inside text)
  where
    points : (within first last : List ℕ) → text ≡ codes "[" ++ within ++ codes ")" → IsCutAt 44 within first last
        → Or ((p : Point) × IsPointText first p) → Or ((p : Point) × IsPointText last p) → Or ((i : Period) × IsPeriodText text i)
    points within first last is cut (inl p) (inl q) = inl (record { start = p.0; end = q.0 }, (first, last, (cut_is_sides text within first last is cut).joined, p.1, q.1))
    points within first last is cut (inr out) q = inr (λ h. out (h.0.start, (sides_are_texts text first last h.0 (cut_is_sides text within first last is cut) h.1).0))
    points within first last is cut (inl p) (inr out) = inr (λ h. out (h.0.end, (sides_are_texts text first last h.0 (cut_is_sides text within first last is cut) h.1).1))

    sides : (within : List ℕ) → text ≡ codes "[" ++ within ++ codes ")" → ((low : List ℕ) × (high : List ℕ) × IsCutAt 44 within low high) ⊎ Lacks 44 within → Or ((i : Period) × IsPeriodText text i)
    sides within is (inl cut) = points within cut.0 cut.1 is cut.2 (a_point cut.0) (a_point cut.1)
    sides within is (inr lacks) = inr (λ h. no_sides text within h.1.0 h.1.1 is lacks (texts_are_sides text h.0 h.1))

    by : Or ((within : List ℕ) × (text ≡ codes "[" ++ within ++ codes ")")) → Or ((i : Period) × IsPeriodText text i)
    by (inl i) = sides i.0 i.1 (cut_or_lacks 44 i.0)
    by (inr out) = inr (λ h. out (h.1.0 ++ 44 ∷ h.1.1, h.1.2 ∙ bracketed-cut h.1.0 h.1.1))

-- ---- numbers

fits : (z : ℤ) → Or (FitsSigned w64 z)
fits z = by (less (mag z) (2 ^ 63))
  where
    by : Or (mag z < 2 ^ 63) → Or (FitsSigned w64 z)
    by (inl h) = inl (record { sfits = h })
    by (inr out) = inr (λ h. out h.sfits)

a_number : (text : List ℕ) → Or ((n : ℤ) × IsIntText text n)
a_number text = by (number (slice_index text 0) 43) (less 0 (length (without_leading_sign text))) (digits (without_leading_sign text)) (fits (signed_digits_value 10 text))
  where
    too_large : (FitsSigned w64 (signed_digits_value 10 text) → ⊥) → (n : ℤ) → IsIntText text n → ⊥
    too_large out n h = out (rw h.number at h.fits)

    by : Or (slice_index text 0 ≡ 43) → Or (0 < length (without_leading_sign text)) → Or (AllDigits 10 (without_leading_sign text)) → Or (FitsSigned w64 (signed_digits_value 10 text))
        → Or ((n : ℤ) × IsIntText text n)
    by (inr a) (inl b) (inl c) (inl d) = inl (signed_digits_value 10 text, record { no_plus = a; digits = (b, c); number = refl; fits = d })
    by (inl plus) b c d = inr (λ h. h.1.no_plus plus)
    by (inr a) (inr out) c d = inr (λ h. out h.1.digits.0)
    by (inr a) (inl b) (inr out) d = inr (λ h. out h.1.digits.1)
    by (inr a) (inl b) (inl c) (inr out) = inr (λ h. too_large out h.0 h.1)

-- ---- cells

pub a_cell : (kind : Kind) (text : List ℕ) → Or ((x : Value) × IsCell kind text x)
a_cell k.Int text = by (a_number text)
  where
    by : Or ((n : ℤ) × IsIntText text n) → Or ((x : Value) × IsCell k.Int text x)
    by (inl n) = inl (v.Int n.0, (n.0, n.1, refl))
    by (inr out) = inr (λ h. out (h.1.0, h.1.1))
a_cell k.Text text = by (utf8 text)
  where
    by : Or (IsUtf8 text) → Or ((x : Value) × IsCell k.Text text x)
    by (inl is) = inl (v.Text text, (is, refl))
    by (inr out) = inr (λ h. out h.1.0)
a_cell k.Date text = by (a_point text)
  where
    by : Or ((p : Point) × IsPointText text p) → Or ((x : Value) × IsCell k.Date text x)
    by (inl p) = inl (v.Point p.0, (p.0, p.1, refl))
    by (inr out) = inr (λ h. out (h.1.0, h.1.1))
a_cell k.Period text = by (a_period text)
  where
    by : Or ((i : Period) × IsPeriodText text i) → Or ((x : Value) × IsCell k.Period text x)
    by (inl i) = inl (v.Period i.0, (i.0, i.1, refl))
    by (inr out) = inr (λ h. out (h.1.0, h.1.1))
