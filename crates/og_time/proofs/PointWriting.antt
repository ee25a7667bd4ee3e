-- The one text of a point.
use Rattle.std.proofs.Common.{◌≡◌, ◌⊎◌, inl, inr, ◌++◌, ◌∷◌, [], ◌<◌, ◌+◌, ◌<ℤ◌, ◌&&◌, ℕ, Bool, true, false, ℤ, List, length, codes, refl, sym, ap, ap₂, ◌∙◌, arith}
use Rattle.std.proofs.lemmas.Int.{ints}
use Rattle.std.proofs.lemmas.List.{append_assoc}
use Rattle.std.proofs.lemmas.Bool.Decides.{Decides-int_eq}
use Rattle.std.specs.Ordering.{int_eq}
use Rattle.og_base.specs.Bytes.{IsCutAt}
use Rattle.og_base.specs.Calendar.{IsDayText, IsRefDayText, IsRefDay, day_text, before_all, after_all}
use Rattle.og_base.proofs.DayTexts.{text_is, day_text_is, civil_in_range, some_bytes}
use Rattle.og_time.specs.Point.{Point, IsPoint, IsPointText, IsWholeText, IsEndText, AreEndTexts, end_text, point_text}
use Rattle.og_time.proofs.PointTexts.{whole_or_cut, plus_between, texts_are_ends, ends_are_texts}

-- the test of two days that are not the same
other_days : (a b : ℤ) → (a ≡ b → ⊥) → int_eq a b ≡ false
other_days a b h = at (int_eq a b) refl
  where
    at : (t : Bool) → int_eq a b ≡ t → int_eq a b ≡ false
    at true e = absurd (h ((Decides-int_eq a b).0 e))
    at false e = e

-- days that the test told apart
apart : {G : Type 0} (a b : ℤ) → int_eq a b ≡ false → a ≡ b → G
apart a b h e = cc (sym ((Decides-int_eq a b).1 e) ∙ h)

-- the text of a point whose ends are the same
pub point_text-fixed : (p : Point) → int_eq p.low p.high ≡ true → point_text p ≡ day_text p.low
unfolding point_text
point_text-fixed p e = rw e refl

-- the text of now
pub point_text-now : (p : Point) → int_eq p.low p.high ≡ false → (int_eq p.low before_all && int_eq p.high after_all) ≡ true → point_text p ≡ codes "now"
unfolding point_text
point_text-now p e f = rw (e, f) refl

-- the text of each other point has two sides
pub point_text-ends : (p : Point) → int_eq p.low p.high ≡ false → (int_eq p.low before_all && int_eq p.high after_all) ≡ false
    → point_text p ≡ end_text p.low before_all ++ codes "+" ++ end_text p.high after_all
unfolding point_text
point_text-ends p e f = rw (e, f) refl

-- the text of an open end, and of a reference day
end_text-open : (n open_end : ℤ) → n ≡ open_end → end_text n open_end ≡ []
end_text-open n open_end e = let t = (Decides-int_eq n open_end).1 e in rw t refl

end_text-day : (n open_end : ℤ) → (n ≡ open_end → ⊥) → end_text n open_end ≡ day_text n
end_text-day n open_end h = let t = other_days n open_end h in rw t refl

-- what is the text of an end is its one text
end_text-is : (text : List ℕ) (open_end n : ℤ) → (IsRefDay open_end → ⊥) → IsEndText text open_end n → text ≡ end_text n open_end
end_text-is text open_end n h (inl none) = none.0 ∙ sym (end_text-open n open_end none.1)
end_text-is text open_end n h (inr is) =
    let r = civil_in_range text n is in
    text_is text n (omega (arith, ints, r.0), omega (arith, ints, r.1)) (inr (inr is))
    ∙ sym (end_text-day n open_end (λ e. h (omega (arith, ints, e, r.0), omega (arith, ints, e, r.1))))

-- an end with the text of a reference day is not open
not_open : (text : List ℕ) (open_end n : ℤ) → (IsRefDay open_end → ⊥) → IsEndText text open_end n → n ≡ open_end → text ≡ []
not_open text open_end n h is e = end_text-is text open_end n h is ∙ end_text-open n open_end e

before_is_no_day : IsRefDay before_all → ⊥
before_is_no_day r = absurd (omega (arith, ints, r.0))

after_is_no_day : IsRefDay after_all → ⊥
after_is_no_day r = absurd (omega (arith, ints, r.1))

-- a text with two sides is not that of now
not_now : (low high : List ℕ) (p : Point) → AreEndTexts low high p → (int_eq p.low before_all && int_eq p.high after_all) ≡ false
not_now low high p h = by (int_eq p.low before_all) (int_eq p.high after_all) refl refl
  where
    by : (s t : Bool) → int_eq p.low before_all ≡ s → int_eq p.high after_all ≡ t → (int_eq p.low before_all && int_eq p.high after_all) ≡ false
    by false t e f = rw e refl
    by true false e f = rw (e, f) refl
    by true true e f =
        let none = not_open low before_all p.low before_is_no_day h.low_end ((Decides-int_eq p.low before_all).0 e) in
        let no_end = not_open high after_all p.high after_is_no_day h.high_end ((Decides-int_eq p.high after_all).0 f) in
        absurd (omega (arith, h.some, ap length none, ap length no_end))

-- what is a text of a point is its one text
pub point_text-is : (text : List ℕ) (p : Point) → IsPoint p → IsPointText text p → text ≡ point_text p
point_text-is text p h is = by (whole_or_cut text p is)
  where
    by : IsWholeText text p ⊎ ((low high : List ℕ) × IsCutAt 43 text low high) → text ≡ point_text p
    by (inl (inl fixed)) =
        text_is text p.low h.low_in fixed.0 ∙ sym (point_text-fixed p ((Decides-int_eq p.low p.high).1 (sym fixed.1)))
    by (inl (inr now)) =
        let low = (Decides-int_eq p.low before_all).1 now.1 in
        let high = (Decides-int_eq p.high after_all).1 now.2 in
        now.0 ∙ sym (point_text-now p (other_days p.low p.high (λ e. absurd (omega (arith, ints, e, now.1, now.2)))) (rw (low, high) refl))
    by (inr (low, high, cut)) =
        let a = texts_are_ends text low high p cut is in
        cut.joined ∙ sym (plus_between low high)
        ∙ ap₂ (λ u v. u ++ codes "+" ++ v) (end_text-is low before_all p.low before_is_no_day a.low_end) (end_text-is high after_all p.high after_is_no_day a.high_end)
        ∙ sym (point_text-ends p (other_days p.low p.high (λ e. absurd (omega (arith, ints, e, a.rising)))) (not_now low high p a))

-- the text of a reference day
ref_day_text : (n : ℤ) → IsRefDay n → IsRefDayText (day_text n) n
ref_day_text n r = by (day_text_is n (omega (arith, ints, r.0), omega (arith, ints, r.1)))
  where
    by : IsDayText (day_text n) n → IsRefDayText (day_text n) n
    by (inl a) = absurd (omega (arith, ints, a.1, r.0))
    by (inr (inl a)) = absurd (omega (arith, ints, a.1, r.1))
    by (inr (inr a)) = a

-- the one text of an end
IsEndText-end_text : (n open_end : ℤ) → (int_eq n open_end ≡ false → IsRefDay n) → IsEndText (end_text n open_end) open_end n
IsEndText-end_text n open_end h = by (int_eq n open_end) refl
  where
    by : (t : Bool) → int_eq n open_end ≡ t → IsEndText (end_text n open_end) open_end n
    by true e = let same = (Decides-int_eq n open_end).0 e in inl (end_text-open n open_end same, same)
    by false e = inr (rw (end_text-day n open_end (apart n open_end e)) (ref_day_text n (h e)))

-- an end that is not open has bytes
end_bytes : (n open_end : ℤ) → int_eq n open_end ≡ false → IsRefDay n → 0 < length (end_text n open_end)
end_bytes n open_end e r = rw (end_text-day n open_end (apart n open_end e)) (some_bytes (day_text n) n (ref_day_text n r))

-- the one text of a point is a text of it
pub IsPointText-point_text : (p : Point) → IsPoint p → IsPointText (point_text p) p
IsPointText-point_text p h = by (int_eq p.low p.high) (int_eq p.low before_all) (int_eq p.high after_all) refl refl refl
  where
    low_day : p.low <ℤ p.high → int_eq p.low before_all ≡ false → IsRefDay p.low
    low_day less g =
        let other : p.low ≡ before_all → ⊥ = λ e. apart p.low before_all g e in
        (omega (arith, ints, h.low_in, other), omega (arith, ints, h.high_in, less))

    high_day : p.low <ℤ p.high → int_eq p.high after_all ≡ false → IsRefDay p.high
    high_day less g =
        let other : p.high ≡ after_all → ⊥ = λ e. apart p.high after_all g e in
        (omega (arith, ints, h.low_in, less), omega (arith, ints, h.high_in, other))

    some : p.low <ℤ p.high → (int_eq p.low before_all ≡ false) ⊎ (int_eq p.high after_all ≡ false)
        → 0 < length (end_text p.low before_all) + length (end_text p.high after_all)
    some less (inl g) = let bytes = end_bytes p.low before_all g (low_day less g) in omega (arith, bytes)
    some less (inr g) = let bytes = end_bytes p.high after_all g (high_day less g) in omega (arith, bytes)

    two_sides : int_eq p.low p.high ≡ false → (int_eq p.low before_all && int_eq p.high after_all) ≡ false
        → (int_eq p.low before_all ≡ false) ⊎ (int_eq p.high after_all ≡ false) → IsPointText (point_text p) p
    two_sides e f one =
        let other : p.low ≡ p.high → ⊥ = λ same. apart p.low p.high e same in
        let rising : p.low <ℤ p.high = omega (arith, ints, h.ordered, other) in
        rw (point_text-ends p e f) (ends_are_texts _ _ _ p (plus_between _ _) (record {
          low_end = IsEndText-end_text p.low before_all (low_day rising);
          high_end = IsEndText-end_text p.high after_all (high_day rising);
          rising = rising;
          some = some rising one;
        }))

    by : (same first last : Bool) → int_eq p.low p.high ≡ same → int_eq p.low before_all ≡ first → int_eq p.high after_all ≡ last → IsPointText (point_text p) p
    by true first last e f g = rw (point_text-fixed p e) (inl (day_text_is p.low h.low_in, sym ((Decides-int_eq p.low p.high).0 e)))
    by false true true e f g = rw (point_text-now p e (rw (f, g) refl)) (inr (inl (refl, (Decides-int_eq p.low before_all).0 f, (Decides-int_eq p.high after_all).0 g)))
    by false true false e f g = two_sides e (rw (f, g) refl) (inr g)
    by false false last e f g = two_sides e (rw f refl) (inl f)

-- the two sides, put one after the other
pub sides_appended : (out low high first plus whole : List ℕ) → first ≡ out ++ low → plus ≡ first ++ 43 ∷ [] → whole ≡ plus ++ high
    → whole ≡ out ++ (low ++ codes "+" ++ high)
sides_appended out low high first plus whole e f g =
    g ∙ ap (λ l. l ++ high) (f ∙ ap (λ l. l ++ 43 ∷ []) e) ∙ simp append_assoc
