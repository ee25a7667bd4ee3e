-- The texts of periods, cut at their comma.
use Rattle.std.proofs.Common.{◌≡◌, ◌≢◌, inl, inr, ◌++◌, ◌∷◌, [], ℕ, List, Option, None, Some, IfNone, IfSome, MatchOption, Bor, codes, refl, sym, ap, ap₂, ◌∙◌, subst, arith}
use Rattle.std.proofs.lemmas.List.{append_assoc}
use Rattle.og_base.specs.Bytes.{Lacks, IsCutAt}
use Rattle.og_base.proofs.ByteLemmas.{cut_once, not_cut, Lacks-append}
use Rattle.og_base.proofs.DayTexts.{Lacks-day_text, Lacks-ref_day_text}
use Rattle.og_time.specs.Point.{Point, IsPointText, point_text}
use Rattle.og_time.specs.Period.{Period, IsPeriod, IsPeriodText, AreSides, bracketed, period_text}
use Rattle.og_time.proofs.PointTexts.{one_point}
use Rattle.og_time.proofs.PointWriting.{point_text-is, IsPointText-point_text}

-- the two sides as the bytes between the brackets, cut at the comma
pub bracketed-cut : (first last : List ℕ) → bracketed first last ≡ codes "[" ++ (first ++ 44 ∷ last) ++ codes ")"
bracketed-cut first last = ap (λ l. l ++ codes ")") (append_assoc (91 ∷ first) (44 ∷ []) last)

-- the plus sign is no comma
Lacks-plus : Lacks 44 (codes "+")
Lacks-plus = (λ e. omega (arith, e), tt)

-- no point text has a comma
pub Lacks-point_text : (text : List ℕ) (p : Point) → IsPointText text p → Lacks 44 text
Lacks-point_text text p (inl fixed) = Lacks-day_text 44 text p.low (omega arith) fixed.0
Lacks-point_text text p (inr (inl now)) = rw now.0 (λ e. omega (arith, e), (λ e. omega (arith, e), (λ e. omega (arith, e), tt)))
Lacks-point_text text p (inr (inr (inl (day, is, first, last)))) =
    rw is (Lacks-append 44 day (codes "+") (Lacks-ref_day_text 44 day p.low (omega arith) first) Lacks-plus)
Lacks-point_text text p (inr (inr (inr (inl (day, is, first, last))))) =
    rw is (Lacks-append 44 (codes "+") day Lacks-plus (Lacks-ref_day_text 44 day p.high (omega arith) last))
Lacks-point_text text p (inr (inr (inr (inr (day, end, is, first, last, rising))))) =
    rw is (Lacks-append 44 (day ++ codes "+") end (Lacks-append 44 day (codes "+") (Lacks-ref_day_text 44 day p.low (omega arith) first) Lacks-plus) (Lacks-ref_day_text 44 end p.high (omega arith) last))

-- what stands between the brackets
same_inside : (xs ys : List ℕ) → codes "[" ++ xs ++ codes ")" ≡ codes "[" ++ ys ++ codes ")" → xs ≡ ys
same_inside xs ys e = by xs ys (cc)
  where
    by : (us vs : List ℕ) → us ++ codes ")" ≡ vs ++ codes ")" → us ≡ vs
    by [] [] f = refl
    by [] (v ∷ []) f = cc
    by [] (v ∷ w ∷ vs) f = cc
    by (u ∷ []) [] f = cc
    by (u ∷ w ∷ us) [] f = cc
    by (u ∷ us) (v ∷ vs) f = ap₂ (λ z zs. z ∷ zs) (let head : u ≡ v = cc in head) (by us vs (cc))

-- a text has two sides in one way
one_cut : (text first last front back : List ℕ) → AreSides text first last → AreSides text front back → (first ≡ front) × (last ≡ back)
one_cut text first last front back h k =
    cut_once 44 first front last back h.first_lacks k.first_lacks (same_inside _ _ (sym (bracketed-cut first last) ∙ sym h.joined ∙ k.joined ∙ bracketed-cut front back))

-- the sides of a period text
pub texts_are_sides : (text : List ℕ) (i : Period) (h : IsPeriodText text i) → AreSides text h.0 h.1
texts_are_sides text i h = record { joined = h.2; first_lacks = Lacks-point_text h.0 i.start h.3 }

-- the sides that were found are the texts of the two points
pub sides_are_texts : (text first last : List ℕ) (i : Period) → AreSides text first last → IsPeriodText text i → IsPointText first i.start × IsPointText last i.end
sides_are_texts text first last i h is =
    let same = one_cut text is.0 is.1 first last (texts_are_sides text i is) h in
    (subst (λ t. IsPointText t i.start) same.0 is.3, subst (λ t. IsPointText t i.end) same.1 is.4)

-- bytes between the brackets that were cut at their comma
pub cut_is_sides : (text inside first last : List ℕ) → text ≡ codes "[" ++ inside ++ codes ")" → IsCutAt 44 inside first last → AreSides text first last
cut_is_sides text inside first last e cut = record {
  joined = e ∙ ap (λ l. codes "[" ++ l ++ codes ")") cut.joined ∙ sym (bracketed-cut first last);
  first_lacks = cut.first;
}

-- bytes between the brackets that have no comma
pub no_sides : (text inside first last : List ℕ) → text ≡ codes "[" ++ inside ++ codes ")" → Lacks 44 inside → AreSides text first last → ⊥
no_sides text inside first last e lacks h =
    not_cut 44 inside first last lacks (same_inside _ _ (sym e ∙ h.joined ∙ bracketed-cut first last))

-- the same of a search for the comma that found none
pub no_sides_where_none : {X : Type 0} (text inside : List ℕ) (cut : Option X) → text ≡ codes "[" ++ inside ++ codes ")" → IfNone cut (Lacks 44 inside)
    → IfNone cut ((first last : List ℕ) → AreSides text first last → ⊥)
no_sides_where_none text inside None e lacks = λ first last h. no_sides text inside first last e lacks h
no_sides_where_none text inside (Some x) e lacks = tt

-- the bytes before the closing bracket
pub inside_where_some : (text rest : List ℕ) (inside : Option (Bor (List ℕ))) → text ≡ codes "[" ++ rest
    → MatchOption inside ((front : List ℕ) → rest ≢ front ++ codes ")") (λ x. rest ≡ x.now ++ codes ")")
    → IfSome inside (λ x. text ≡ codes "[" ++ x.now ++ codes ")")
inside_where_some text rest None e h = tt
inside_where_some text rest (Some x) e h = e ∙ ap (λ l. 91 ∷ l) h

-- the period with these ends
period_of_ends : Point → Point → Period
period_of_ends start end = record { start = start; end = end }

same_ends : (i j : Period) → i.start ≡ j.start → i.end ≡ j.end → i ≡ j
unfolding period_of_ends
same_ends i j start end = ap₂ period_of_ends start end

-- a text is of one period at most
pub one_period : (text : List ℕ) (i j : Period) → IsPeriodText text i → IsPeriodText text j → i ≡ j
one_period text i j h k =
    let is = sides_are_texts text h.0 h.1 j (texts_are_sides text i h) k in
    same_ends i j (one_point h.0 i.start j.start h.3 is.0) (one_point h.1 i.end j.end h.4 is.1)

-- what is a text of a period is its one text
pub period_text-is : (text : List ℕ) (i : Period) → IsPeriod i → IsPeriodText text i → text ≡ period_text i
period_text-is text i p h = h.2 ∙ ap₂ bracketed (point_text-is h.0 i.start p.start_is h.3) (point_text-is h.1 i.end p.end_is h.4)

-- the one text of a period is a text of it
pub IsPeriodText-period_text : (i : Period) → IsPeriod i → IsPeriodText (period_text i) i
IsPeriodText-period_text i p =
    (point_text i.start, point_text i.end, refl, IsPointText-point_text i.start p.start_is, IsPointText-point_text i.end p.end_is)

-- the text of a period, put piece by piece
pub pieces_appended : (out first last a b c d whole : List ℕ) → a ≡ out ++ 91 ∷ [] → b ≡ a ++ first → c ≡ b ++ 44 ∷ [] → d ≡ c ++ last → whole ≡ d ++ 41 ∷ []
    → whole ≡ out ++ bracketed first last
pieces_appended out first last a b c d whole e f g h k =
    k ∙ ap (λ l. l ++ 41 ∷ []) (h ∙ ap (λ l. l ++ last) (g ∙ ap (λ l. l ++ 44 ∷ []) (f ∙ ap (λ l. l ++ first) e)))
    ∙ simp append_assoc
