-- The texts of points, cut at their plus sign.
use Rattle.std.proofs.Common.{◌≡◌, ◌⊎◌, inl, inr, ◌++◌, ◌∷◌, [], ◌<◌, ◌<ℤ◌, ℕ, zero, suc, ◌↔◌, Bool, false, IsTrue, ℤ, pos, negsuc, List, Option, Some, None, Result, SomeIff, IfOk, OnErr, length, codes, refl, sym, ap, ap₂, ◌∙◌, subst, arith}
use Rattle.std.proofs.lemmas.Int.{ints}
use Rattle.std.proofs.lemmas.List.{append_assoc}
use Rattle.std.specs.Option.{ok_or}
use Rattle.og_base.specs.Bytes.{Lacks, IsCutAt}
use Rattle.og_base.specs.Calendar.{IsDayText, IsRefDayText, before_all, after_all}
use Rattle.og_base.proofs.ByteLemmas.{cut_once, not_cut}
use Rattle.og_base.proofs.DayTexts.{Lacks-day_text, Lacks-ref_day_text, civil_in_range, some_bytes}
use Rattle.og_base.proofs.ReadTexts.{one_ref_day}
use Rattle.og_time.specs.Point.{Point, IsPointText, IsEndText, AreEndTexts, IsWholeText}

-- what comes of a point that is made where its ends are in order
pub made : {E : Type 0} (o : Option Point) (P : Type 0) (v : Point) (e : E) (r : Result Point E) → SomeIff o P v → r ≡ ok_or o e → IfOk r (λ p. P × (p ≡ v)) × OnErr r (¬ P)
made None P v e r none is = rw is (tt, none)
made (Some p) P v e r some is = rw is (some, tt)

-- an end's text is of one day
one_end : (text : List ℕ) (open_end m n : ℤ) → IsEndText text open_end m → IsEndText text open_end n → m ≡ n
one_end text open_end m n (inl a) (inl b) = a.1 ∙ sym b.1
one_end text open_end m n (inl a) (inr b) = absurd (omega (arith, some_bytes text n b, ap length a.0))
one_end text open_end m n (inr a) (inl b) = absurd (omega (arith, some_bytes text m a, ap length b.0))
one_end text open_end m n (inr a) (inr b) = one_ref_day text m n a b

-- ends that are out of order are of no point
pub no_ends : (low high : List ℕ) (m n : ℤ) (p : Point) → IsEndText low before_all m → IsEndText high after_all n → (m <ℤ n → ⊥) → AreEndTexts low high p → ⊥
no_ends low high m n p a b out h =
    let first = one_end low before_all p.low m h.low_end a in
    let last = one_end high after_all p.high n h.high_end b in
    out (omega (arith, ints, first, last, h.rising))

pub plus_between : (first last : List ℕ) → first ++ codes "+" ++ last ≡ first ++ 43 ∷ last
plus_between first last = append_assoc first (43 ∷ []) last

-- a text with two sides is the text of the point with these ends
pub ends_are_texts : (text low high : List ℕ) (p : Point) → text ≡ low ++ 43 ∷ high → AreEndTexts low high p → IsPointText text p
ends_are_texts text low high p e h = by h.low_end h.high_end
  where
    by : IsEndText low before_all p.low → IsEndText high after_all p.high → IsPointText text p
    by (inl none) (inl no_end) = absurd (omega (arith, h.some, ap length none.0, ap length no_end.0))
    by (inl none) (inr last) = inr (inr (inr (inl (high, e ∙ ap (λ l. l ++ 43 ∷ high) none.0, none.1, last))))
    by (inr first) (inl no_end) = inr (inr (inl (low, e ∙ ap (λ l. low ++ 43 ∷ l) no_end.0, first, no_end.1)))
    by (inr first) (inr last) = inr (inr (inr (inr (low, high, e ∙ sym (plus_between low high), first, last, h.rising))))

-- the text of a point with a plus sign has two sides, which are the ends of the point
pub texts_are_ends : (text low high : List ℕ) (p : Point) → IsCutAt 43 text low high → IsPointText text p → AreEndTexts low high p
texts_are_ends text low high p cut (inl fixed) = absurd (not_cut 43 text low high (Lacks-day_text 43 text p.low (omega arith) fixed.0) cut.joined)
texts_are_ends text low high p cut (inr (inl now)) = absurd (not_cut 43 (codes "now") low high (λ e. omega (arith, e), (λ e. omega (arith, e), (λ e. omega (arith, e), tt))) (sym now.0 ∙ cut.joined))
texts_are_ends text low high p cut (inr (inr (inl (day, is, first, last)))) =
    let same = cut_once 43 low day high [] cut.first (Lacks-ref_day_text 43 day p.low (omega arith) first) (sym cut.joined ∙ is) in
    let r = civil_in_range day p.low first in
    record {
      low_end = inr (subst (λ l. IsRefDayText l p.low) (sym same.0) first);
      high_end = inl (same.1, last);
      rising = rw last (omega (arith, ints, r.1));
      some = omega (arith, some_bytes day p.low first, ap length same.0);
    }
texts_are_ends text low high p cut (inr (inr (inr (inl (day, is, first, last))))) =
    let same = cut_once 43 low [] high day cut.first tt (sym cut.joined ∙ is) in
    let r = civil_in_range day p.high last in
    record {
      low_end = inl (same.0, first);
      high_end = inr (subst (λ l. IsRefDayText l p.high) (sym same.1) last);
      rising = rw first (omega (arith, ints, r.0));
      some = omega (arith, some_bytes day p.high last, ap length same.1);
    }
texts_are_ends text low high p cut (inr (inr (inr (inr (day, end, is, first, last, rising))))) =
    let same = cut_once 43 low day high end cut.first (Lacks-ref_day_text 43 day p.low (omega arith) first) (sym cut.joined ∙ is ∙ plus_between day end) in
    record {
      low_end = inr (subst (λ l. IsRefDayText l p.low) (sym same.0) first);
      high_end = inr (subst (λ l. IsRefDayText l p.high) (sym same.1) last);
      rising = rising;
      some = omega (arith, some_bytes day p.low first, ap length same.0);
    }

-- a text without a plus sign is whole
pub texts_are_whole : (text : List ℕ) (p : Point) → Lacks 43 text → IsPointText text p → IsWholeText text p
texts_are_whole text p lacks (inl fixed) = inl fixed
texts_are_whole text p lacks (inr (inl now)) = inr now
texts_are_whole text p lacks (inr (inr (inl (day, is, first, last)))) = absurd (not_cut 43 text day [] lacks is)
texts_are_whole text p lacks (inr (inr (inr (inl (day, is, first, last))))) = absurd (not_cut 43 text [] day lacks is)
texts_are_whole text p lacks (inr (inr (inr (inr (day, end, is, first, last, rising))))) = absurd (not_cut 43 text day end lacks (is ∙ plus_between day end))

pub whole_is_text : (text : List ℕ) (p : Point) → IsWholeText text p → IsPointText text p
whole_is_text text p (inl fixed) = inl fixed
whole_is_text text p (inr now) = inr (inl now)

-- a test for nothing that failed
pub some_unless : (b : Bool) (n : ℕ) → IsTrue b ↔ (n ≡ 0) → b ≡ false → 0 < n
some_unless b zero h f = cc (sym f ∙ h.1 refl)
some_unless b (suc n) h f = omega arith

-- the texts of reference days are longer than the infinities and `now`
long_text : (text : List ℕ) (n : ℤ) → IsRefDayText text n → 9 < length text
long_text text n h = by h.0.year refl
  where
    by : (year : ℤ) → h.0.year ≡ year → 9 < length text
    by (pos k) e = rw (h.1, e) (omega arith)
    by (negsuc k) e = rw (h.1, e) (omega arith)

-- a text is of one day at most
pub one_day : (text : List ℕ) (m n : ℤ) → IsDayText text m → IsDayText text n → m ≡ n
one_day text m n (inl a) (inl b) = a.1 ∙ sym b.1
one_day text m n (inl a) (inr (inl b)) = cc
one_day text m n (inl a) (inr (inr b)) = absurd (omega (arith, long_text text n b, ap length a.0))
one_day text m n (inr (inl a)) (inl b) = cc
one_day text m n (inr (inl a)) (inr (inl b)) = a.1 ∙ sym b.1
one_day text m n (inr (inl a)) (inr (inr b)) = absurd (omega (arith, long_text text n b, ap length a.0))
one_day text m n (inr (inr a)) (inl b) = absurd (omega (arith, long_text text m a, ap length b.0))
one_day text m n (inr (inr a)) (inr (inl b)) = absurd (omega (arith, long_text text m a, ap length b.0))
one_day text m n (inr (inr a)) (inr (inr b)) = one_ref_day text m n a b

-- `now` is no day text
now_is_no_day : (text : List ℕ) (n : ℤ) → text ≡ codes "now" → IsDayText text n → ⊥
now_is_no_day text n e (inl a) = cc
now_is_no_day text n e (inr (inl a)) = cc
now_is_no_day text n e (inr (inr a)) = omega (arith, long_text text n a, ap length e)

-- the point with these ends
point_of : ℤ → ℤ → Point
point_of low high = record { low = low; high = high }

-- points with the same ends
same_ends : (p q : Point) → p.low ≡ q.low → p.high ≡ q.high → p ≡ q
unfolding point_of
same_ends p q low high = ap₂ point_of low high

-- a text without a plus sign is of one point at most
one_whole : (text : List ℕ) (p q : Point) → IsWholeText text p → IsWholeText text q → p ≡ q
one_whole text p q (inl a) (inl b) =
    let low = one_day text p.low q.low a.0 b.0 in
    same_ends p q low (a.1 ∙ low ∙ sym b.1)
one_whole text p q (inl a) (inr b) = absurd (now_is_no_day text p.low b.0 a.0)
one_whole text p q (inr a) (inl b) = absurd (now_is_no_day text q.low a.0 b.0)
one_whole text p q (inr a) (inr b) = same_ends p q (a.1 ∙ sym b.1) (a.2 ∙ sym b.2)

-- a text that is whole has no plus sign
Lacks-whole_text : (text : List ℕ) (p : Point) → IsWholeText text p → Lacks 43 text
Lacks-whole_text text p (inl fixed) = Lacks-day_text 43 text p.low (omega arith) fixed.0
Lacks-whole_text text p (inr now) = rw now.0 (λ e. omega (arith, e), (λ e. omega (arith, e), (λ e. omega (arith, e), tt)))

-- a point text is whole, or is cut at its plus sign
pub whole_or_cut : (text : List ℕ) (p : Point) → IsPointText text p → IsWholeText text p ⊎ ((low high : List ℕ) × IsCutAt 43 text low high)
whole_or_cut text p (inl fixed) = inl (inl fixed)
whole_or_cut text p (inr (inl now)) = inl (inr now)
whole_or_cut text p (inr (inr (inl (day, is, first, last)))) =
    inr (day, [], record { joined = is; first = Lacks-ref_day_text 43 day p.low (omega arith) first })
whole_or_cut text p (inr (inr (inr (inl (day, is, first, last))))) =
    inr ([], day, record { joined = is; first = tt })
whole_or_cut text p (inr (inr (inr (inr (day, end, is, first, last, rising))))) =
    inr (day, end, record { joined = is ∙ plus_between day end; first = Lacks-ref_day_text 43 day p.low (omega arith) first })

-- a text is of one point at most
pub one_point : (text : List ℕ) (p q : Point) → IsPointText text p → IsPointText text q → p ≡ q
one_point text p q h k = by (whole_or_cut text p h)
  where
    by : IsWholeText text p ⊎ ((low high : List ℕ) × IsCutAt 43 text low high) → p ≡ q
    by (inl whole) = one_whole text p q whole (texts_are_whole text q (Lacks-whole_text text p whole) k)
    by (inr (low, high, cut)) =
        let a = texts_are_ends text low high p cut h in
        let b = texts_are_ends text low high q cut k in
        same_ends p q (one_end low before_all p.low q.low a.low_end b.low_end) (one_end high after_all p.high q.high a.high_end b.high_end)
