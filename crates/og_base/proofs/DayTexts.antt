-- Each day has one text.
use Rattle.std.proofs.Common.{◌≡◌, ◌⊎◌, inl, inr, ◌<◌, ℕ, ℤ, pos, negsuc, ◌≤ℤ◌, ◌-ℤ◌, ◌/◌, ◌%◌, ◌++◌, length, length-append, suc, [], ◌∷◌, nat_lt, Bool, true, false, cond, refl, sym, ◌∙◌, arith, unsigned_abs, List, codes}
use Rattle.std.specs.List.{list_all}
use Rattle.std.proofs.lemmas.Bool.{and_parts}
use Rattle.std.proofs.lemmas.Bool.Decides.{nat_tests}
use Rattle.std.specs.Str.{bytes_eq}
use Rattle.std.proofs.lemmas.Slice.Eq.{bytes_eq-Decides}
use Rattle.std.specs.Ordering.{int_eq}
use Rattle.std.proofs.lemmas.Bool.Decides.{Decides-int_eq}
use Rattle.jiff_core.specs.Calendar.{IsCivilDate}
use Rattle.jiff_core.specs.Date.{epoch_day}
use Rattle.jiff_core.specs.declared.civil.date.Date.{Date}
use Rattle.jiff_core.proofs.SignedLemmas.{signed_arith}
use Rattle.jiff_core.proofs.DateLemmas.{epoch_day_injective, epoch_day_range}
use Rattle.jiff_fmt.specs.Text.{date_text, year_text, pad2, pad4}
use Rattle.og_base.specs.Bytes.{Lacks}
use Rattle.og_base.proofs.ByteLemmas.{Lacks-append, Lacks-above}
use Rattle.og_base.specs.Calendar.{IsDayText, IsRefDayText, IsRefDay, IsExtDay, CivilDay, civil_day, civil_text, day_text, first_day, before_all, after_all}
use Rattle.og_base.proofs.CivilDays.{civil_day_is}

-- dates with one number have one text
pub date_text-number : (d e : Date) → epoch_day d ≡ epoch_day e → date_text d ≡ date_text e
date_text-number d e h = let p = epoch_day_injective d e h in rw (p.0, p.1, p.2)

-- a civil text is of a reference day
pub civil_in_range : (text : List ℕ) (n : ℤ) → IsRefDayText text n → IsRefDay n
civil_in_range text n h = rw h.2 (epoch_day_range h.0)

pub one_text : (s t : List ℕ) (n : ℤ) → IsDayText s n → IsDayText t n → s ≡ t
one_text s t n (inl a) (inl b) = a.0 ∙ sym b.0
one_text s t n (inl a) (inr (inl b)) = cc
one_text s t n (inl a) (inr (inr b)) = let r = civil_in_range t n b in absurd (omega (arith, signed_arith, a.1))
one_text s t n (inr (inl a)) (inl b) = cc
one_text s t n (inr (inl a)) (inr (inl b)) = a.0 ∙ sym b.0
one_text s t n (inr (inl a)) (inr (inr b)) = let r = civil_in_range t n b in absurd (omega (arith, signed_arith, a.1))
one_text s t n (inr (inr a)) (inl b) = let r = civil_in_range s n a in absurd (omega (arith, signed_arith, b.1))
one_text s t n (inr (inr a)) (inr (inl b)) = let r = civil_in_range s n a in absurd (omega (arith, signed_arith, b.1))
one_text s t n (inr (inr a)) (inr (inr b)) = a.1 ∙ date_text-number a.0 b.0 (sym a.2 ∙ b.2) ∙ sym b.1

-- the civil day of that place as a date
date_of : (c : CivilDay) → IsCivilDate c.year c.month c.day → Date
date_of c h = record { year = c.year; month = c.month; day = c.day; year_in = h.0; month_in = h.1; day_in = h.2 }

not_negative : (z : ℤ) → pos 0 ≤ℤ z → pos (unsigned_abs z) ≡ z
not_negative (pos n) h = refl
not_negative (negsuc n) h = absurd (omega (arith, signed_arith, h))

-- a reference day has its text
pub ref_day_text_is : (n : ℤ) → IsRefDay n → IsRefDayText (civil_text (civil_day (unsigned_abs (n -ℤ first_day)))) n
unfolding date_of
ref_day_text_is n h =
    let place = not_negative (n -ℤ first_day) (omega (arith, signed_arith, h.0)) in
    let nth = civil_day_is (unsigned_abs (n -ℤ first_day)) (omega (arith, signed_arith, place, h.1)) in
    (date_of _ nth.civil, refl, omega (arith, signed_arith, nth.number, place))

by_test : (n : ℤ) (first last : Bool) → int_eq n before_all ≡ first → int_eq n after_all ≡ last → IsExtDay n → IsDayText (cond first (codes "-infinity") (cond last (codes "infinity") (civil_text (civil_day (unsigned_abs (n -ℤ first_day)))))) n
by_test n true last e f h = inl (refl, (Decides-int_eq n before_all).0 e)
by_test n false true e f h = inr (inl (refl, (Decides-int_eq n after_all).0 f))
by_test n false false e f h =
    let low : n ≡ before_all → ⊥ = λ same. cc (sym ((Decides-int_eq n before_all).1 same) ∙ e) in
    let high : n ≡ after_all → ⊥ = λ same. cc (sym ((Decides-int_eq n after_all).1 same) ∙ f) in
    inr (inr (ref_day_text_is n (omega (arith, signed_arith, low, h.0), omega (arith, signed_arith, high, h.1))))

pub day_text_is : (n : ℤ) → IsExtDay n → IsDayText (day_text n) n
unfolding day_text
day_text_is n h = by_test n (int_eq n before_all) (int_eq n after_all) refl refl h

-- what is a text of a day is the text of that day
pub text_is : (text : List ℕ) (n : ℤ) → IsExtDay n → IsDayText text n → text ≡ day_text n
text_is text n h is = one_text text (day_text n) n is (day_text_is n h)

-- the infinities
pub day_text-first : (n : ℤ) → int_eq n before_all ≡ true → day_text n ≡ codes "-infinity"
day_text-first n h = sym (text_is (codes "-infinity") n (at_first n h) (inl (refl, (Decides-int_eq n before_all).0 h)))
  where
    at_first : (n : ℤ) → int_eq n before_all ≡ true → IsExtDay n
    at_first n h = let e = (Decides-int_eq n before_all).0 h in (omega (arith, signed_arith, e), omega (arith, signed_arith, e))

pub day_text-last : (n : ℤ) → (n ≡ before_all) ⊎ (n ≡ after_all) → int_eq n before_all ≡ false → day_text n ≡ codes "infinity"
day_text-last n (inl e) h = cc (sym ((Decides-int_eq n before_all).1 e) ∙ h)
day_text-last n (inr e) h = sym (text_is (codes "infinity") n (omega (arith, signed_arith, e), omega (arith, signed_arith, e)) (inr (inl (refl, e))))

-- the text that jiff prints for a date is the text of its day
pub day_text-epoch_day : (d : Date) → day_text (epoch_day d) ≡ date_text d
day_text-epoch_day d =
    let r = epoch_day_range d in
    sym (text_is (date_text d) (epoch_day d) (omega (arith, signed_arith, r.0), omega (arith, signed_arith, r.1)) (inr (inr (d, refl, refl))))

-- bytes that a test told apart
pub differ : (xs ys zs : List ℕ) (b : Bool) → b ≡ bytes_eq xs ys → ys ≡ zs → b ≡ false → xs ≡ zs → ⊥
differ xs ys zs b test same h e = cc (sym ((bytes_eq-Decides xs ys).1 (e ∙ sym same)) ∙ sym test ∙ h)

-- no text of a reference day and no infinity: no day text
pub no_day_text : (text : List ℕ) → (text ≡ codes "-infinity" → ⊥) → (text ≡ codes "infinity" → ⊥) → ((n : ℤ) → IsRefDayText text n → ⊥)
    → (n : ℤ) → IsDayText text n → ⊥
no_day_text text a b h n (inl x) = a x.0
no_day_text text a b h n (inr (inl x)) = b x.0
no_day_text text a b h n (inr (inr x)) = h n x

-- bytes that are all from the dash on lack each byte below it
Lacks-high : (b : ℕ) (xs : List ℕ) → b < 45 → list_all (λ x. nat_lt 44 x) xs ≡ true → Lacks b xs
Lacks-high b [] h all = tt
Lacks-high b (x ∷ xs) h all =
    let p = and_parts (nat_lt 44 x) (list_all (λ x. nat_lt 44 x) xs) all in
    let high : 44 < x = grind (arith, nat_tests, p.0) in
    Lacks-above b x xs (omega arith) (Lacks-high b xs h p.1)

Lacks-pad2 : (b n : ℕ) → b < 45 → Lacks b (pad2 n)
Lacks-pad2 b n h = (λ e. omega (arith, e), (λ e. omega (arith, e), tt))

Lacks-pad4 : (b n : ℕ) → b < 45 → Lacks b (pad4 n)
Lacks-pad4 b n h = Lacks-append b (pad2 (n / 100)) (pad2 (n % 100)) (Lacks-pad2 b (n / 100) h) (Lacks-pad2 b (n % 100) h)

Lacks-year_text : (b : ℕ) (y : ℤ) → b < 45 → Lacks b (year_text y)
Lacks-year_text b (pos n) h = Lacks-pad4 b n h
Lacks-year_text b (negsuc n) h =
    (λ e. omega (arith, e), (λ e. omega (arith, e), (λ e. omega (arith, e), Lacks-pad4 b (suc n) h)))

Lacks-date_text : (b : ℕ) (d : Date) → b < 45 → Lacks b (date_text d)
Lacks-date_text b d h =
    let dash : Lacks b (45 ∷ []) = (λ e. omega (arith, e), tt) in
    let year = Lacks-append b (year_text d.year) (45 ∷ []) (Lacks-year_text b d.year h) dash in
    let month = Lacks-append b (year_text d.year ++ 45 ∷ []) (pad2 d.month) year (Lacks-pad2 b d.month h) in
    let middle = Lacks-append b (year_text d.year ++ 45 ∷ [] ++ pad2 d.month) (45 ∷ []) month dash in
    Lacks-append b (year_text d.year ++ 45 ∷ [] ++ pad2 d.month ++ 45 ∷ []) (pad2 d.day) middle (Lacks-pad2 b d.day h)

Lacks-infinity : (b : ℕ) → b < 45 → Lacks b (codes "infinity")
Lacks-infinity b h = Lacks-high b (codes "infinity") h refl

-- no byte of a day text is below the dash
pub Lacks-ref_day_text : (b : ℕ) (text : List ℕ) (n : ℤ) → b < 45 → IsRefDayText text n → Lacks b text
Lacks-ref_day_text b text n h is = rw is.1 (Lacks-date_text b is.0 h)

pub Lacks-day_text : (b : ℕ) (text : List ℕ) (n : ℤ) → b < 45 → IsDayText text n → Lacks b text
Lacks-day_text b text n h (inl is) = rw is.0 (λ e. omega (arith, e), Lacks-infinity b h)
Lacks-day_text b text n h (inr (inl is)) = rw is.0 (Lacks-infinity b h)
Lacks-day_text b text n h (inr (inr is)) = Lacks-ref_day_text b text n h is

-- a day text of a reference day has bytes
pub some_bytes : (text : List ℕ) (n : ℤ) → IsRefDayText text n → 0 < length text
some_bytes text n h =
    rw h.1 (omega (arith, length-append (year_text h.0.year ++ 45 ∷ [] ++ pad2 h.0.month ++ 45 ∷ []) (pad2 h.0.day)))
