-- What is found among all days, points and periods is what the text is of.
use Rattle.std.proofs.Common.{◌≡◌, inl, inr, ◌≤ℤ◌, ◌<ℤ◌, ◌+ℤ◌, ℕ, zero, suc, ℤ, pos, Bool, true, false, List, Option, Some, None, int_le, if◌then◌else◌, refl, sym, ap, ◌∙◌, subst, arith}
use Rattle.std.proofs.lemmas.Int.{ints}
use Rattle.std.proofs.lemmas.Option.{same_Some}
use Rattle.std.proofs.lemmas.Slice.Eq.{bytes_eq-Decides}
use Rattle.std.specs.Str.{bytes_eq}
use Rattle.og_base.specs.Calendar.{IsExtDay, IsDayText, before_all, day_text}
use Rattle.og_base.proofs.DayTexts.{civil_in_range, text_is, day_text_is}
use Rattle.og_time.specs.Point.{Point, IsPoint, IsPointText, point_text}
use Rattle.og_time.specs.Period.{Period, IsPeriod, IsPeriodText, period_text}
use Rattle.og_time.proofs.PointTexts.{one_day, one_point}
use Rattle.og_time.proofs.PointWriting.{point_text-is, IsPointText-point_text}
use Rattle.og_time.proofs.PeriodTexts.{one_period, period_text-is, IsPeriodText-period_text}
use Rattle.og_syntax.specs.TextValues.{or_else, search, search_days, of_rising, search_points, search_periods, if_text, day_of, point_of, period_of}

-- what is found is the answer for one of the numbers
search_sound : {A : Type 0} (f : ℤ → Option A) (n : ℤ) (count : ℕ) (y : A) → search f n count ≡ Some y
    → (x : ℤ) × (n ≤ℤ x) × (x <ℤ (n +ℤ pos count)) × (f x ≡ Some y)
unfolding search
search_sound f n zero y e = cc
search_sound {A} f n (suc count) y e = go (f n) refl e (search_sound f (n +ℤ pos 1) count y)
  where
    go : (o : Option A) → f n ≡ o → or_else o (search f (n +ℤ pos 1) count) ≡ Some y
        → (search f (n +ℤ pos 1) count ≡ Some y → (x : ℤ) × ((n +ℤ pos 1) ≤ℤ x) × (x <ℤ ((n +ℤ pos 1) +ℤ pos count)) × (f x ≡ Some y))
        → (x : ℤ) × (n ≤ℤ x) × (x <ℤ (n +ℤ pos (suc count))) × (f x ≡ Some y)
    go (Some z) h e later = (n, omega (arith, ints), omega (arith, ints), h ∙ e)
    go None h e later = let p = later e in (p.0, omega (arith, ints, p.1), omega (arith, ints, p.2), p.3)

-- where there is an answer, one is found
search_complete : {A : Type 0} (f : ℤ → Option A) (n : ℤ) (count : ℕ) (x : ℤ) (y : A) → n ≤ℤ x → x <ℤ (n +ℤ pos count) → f x ≡ Some y
    → (z : A) × (search f n count ≡ Some z)
unfolding search
search_complete f n zero x y low high e = absurd (omega (arith, ints, low, high))
search_complete {A} f n (suc count) x y low high e = go (f n) refl (λ l h. search_complete f (n +ℤ pos 1) count x y l h e)
  where
    go : (o : Option A) → f n ≡ o → ((n +ℤ pos 1) ≤ℤ x → x <ℤ ((n +ℤ pos 1) +ℤ pos count) → (z : A) × (search f (n +ℤ pos 1) count ≡ Some z))
        → (z : A) × (or_else o (search f (n +ℤ pos 1) count) ≡ Some z)
    go (Some z) h later = (z, refl)
    go None h later =
        let other : n ≡ x → ⊥ = λ same. none_some y (sym h ∙ ap f same ∙ e) in
        later (omega (arith, ints, low, other)) (omega (arith, ints, high))
      where
        none_some : (y : A) → None ≡ Some y → ⊥
        none_some y e = cc

-- what is found is the answer for a day
days_sound : {A : Type 0} (f : ℤ → Option A) (y : A) → search_days f ≡ Some y → (x : ℤ) × IsExtDay x × (f x ≡ Some y)
unfolding search_days
days_sound f y e = let p = search_sound f before_all 7_304_486 y e in (p.0, (p.1, omega (arith, ints, p.2)), p.3)

-- where a day has an answer, one is found
days_complete : {A : Type 0} (f : ℤ → Option A) (x : ℤ) (y : A) → IsExtDay x → f x ≡ Some y → (z : A) × (search_days f ≡ Some z)
unfolding search_days
days_complete f x y h e = search_complete f before_all 7_304_486 x y h.0 (omega (arith, ints, h.1)) e

-- the test tells that the first is not above the second
int_le-rising : (a b : ℤ) → int_le a b ≡ true → a ≤ℤ b
int_le-rising a b e = grind (arith, ints, e)

-- where the first is not above the second, the test tells it
int_le-true : (a b : ℤ) → a ≤ℤ b → int_le a b ≡ true
int_le-true a b e = grind (arith, ints, e)

-- an answer for two days is one for their point
rising_sound : {A : Type 0} (f : Point → Option A) (low high : ℤ) (y : A) → of_rising f low high ≡ Some y
    → (low ≤ℤ high) × (f (record { low = low; high = high }) ≡ Some y)
rising_sound f low high y e = go (int_le low high) refl e
  where
    go : (b : Bool) → int_le low high ≡ b → (if b then f (record { low = low; high = high }) else None) ≡ Some y
        → (low ≤ℤ high) × (f (record { low = low; high = high }) ≡ Some y)
    go true h e = (int_le-rising low high h, e)
    go false h e = cc

-- what is found is the answer for a point
points_sound : {A : Type 0} (f : Point → Option A) (y : A) → search_points f ≡ Some y → (x : Point) × IsPoint x × (f x ≡ Some y)
unfolding search_points
points_sound f y e =
    let a = days_sound (λ low. search_days (λ high. of_rising f low high)) y e in
    let b = days_sound (λ high. of_rising f a.0 high) y a.2 in
    let c = rising_sound f a.0 b.0 y b.2 in
    (record { low = a.0; high = b.0 }, record { low_in = a.1; high_in = b.1; ordered = c.0 }, c.1)

-- where a point has an answer, one is found
points_complete : {A : Type 0} (f : Point → Option A) (x : Point) (y : A) → IsPoint x → f x ≡ Some y → (z : A) × (search_points f ≡ Some z)
unfolding search_points
points_complete f x y h e =
    let b = days_complete (λ high. of_rising f x.low high) x.high y h.high_in
    (ap (λ b. if b then f x else None) (int_le-true x.low x.high h.ordered) ∙ e) in
    days_complete (λ low. search_days (λ high. of_rising f low high)) x.low b.0 h.low_in b.1

-- what is found is the answer for a period
periods_sound : {A : Type 0} (f : Period → Option A) (y : A) → search_periods f ≡ Some y → (x : Period) × IsPeriod x × (f x ≡ Some y)
unfolding search_periods
periods_sound f y e =
    let a = points_sound (λ start. search_points (λ end. f (record { start = start; end = end }))) y e in
    let b = points_sound (λ end. f (record { start = a.0; end = end })) y a.2 in
    (record { start = a.0; end = b.0 }, record { start_is = a.1; end_is = b.1 }, b.2)

-- where a period has an answer, one is found
periods_complete : {A : Type 0} (f : Period → Option A) (x : Period) (y : A) → IsPeriod x → f x ≡ Some y → (z : A) × (search_periods f ≡ Some z)
unfolding search_periods
periods_complete f x y h e =
    let b = points_complete (λ end. f (record { start = x.start; end = end })) x.end y h.end_is e in
    points_complete (λ start. search_points (λ end. f (record { start = start; end = end }))) x.start b.0 h.start_is b.1

-- ---- the value of a text

-- a value that is found has the text
if_text_sound : {A : Type 0} (written : A → List ℕ) (text : List ℕ) (x y : A) → if_text written text x ≡ Some y → (written y ≡ text) × (x ≡ y)
if_text_sound {A} written text x y e = go (bytes_eq (written x) text) refl e
  where
    go : (b : Bool) → bytes_eq (written x) text ≡ b → (if b then Some x else None) ≡ Some y → (written y ≡ text) × (x ≡ y)
    go true h e = let same = same_Some x y e in (ap written (sym same) ∙ (bytes_eq-Decides (written x) text).0 h, same)
    go false h e = cc

-- a value is found by its text
if_text_complete : {A : Type 0} (written : A → List ℕ) (text : List ℕ) (x : A) → text ≡ written x → if_text written text x ≡ Some x
if_text_complete written text x e = ap (λ b. if b then Some x else None) ((bytes_eq-Decides (written x) text).1 (sym e))

-- a day text is of a day
pub day_in_range : (text : List ℕ) (n : ℤ) → IsDayText text n → IsExtDay n
day_in_range text n (inl a) = (omega (arith, ints, a.1), omega (arith, ints, a.1))
day_in_range text n (inr (inl a)) = (omega (arith, ints, a.1), omega (arith, ints, a.1))
day_in_range text n (inr (inr a)) = let r = civil_in_range text n a in (omega (arith, ints, r.0), omega (arith, ints, r.1))

-- what is found for the text is its day, and the day of a text is found
pub day_of-sound : (text : List ℕ) (n : ℤ) → day_of text ≡ Some n → IsDayText text n
unfolding day_of
day_of-sound text n e =
    let a = days_sound (if_text day_text text) n e in
    let b = if_text_sound day_text text a.0 n a.2 in
    subst (λ t. IsDayText t n) b.0 (day_text_is n (subst IsExtDay b.1 a.1))

-- the day of a day text is found
pub day_of-complete : (text : List ℕ) (n : ℤ) → IsDayText text n → day_of text ≡ Some n
unfolding day_of
day_of-complete text n h =
    let r = day_in_range text n h in
    let a = days_complete (if_text day_text text) n n r (if_text_complete day_text text n (text_is text n r h)) in
    a.1 ∙ ap Some (one_day text a.0 n (day_of-sound text a.0 a.1) h)

-- a point text is of a point
pub point_in_range : (text : List ℕ) (p : Point) → IsPointText text p → IsPoint p
point_in_range text p (inl a) =
    let r = day_in_range text p.low a.0 in
    record { low_in = r; high_in = subst IsExtDay (sym a.1) r; ordered = omega (arith, ints, a.1) }
point_in_range text p (inr (inl a)) = record {
  low_in = (omega (arith, ints, a.1), omega (arith, ints, a.1));
  high_in = (omega (arith, ints, a.2), omega (arith, ints, a.2));
  ordered = omega (arith, ints, a.1, a.2);
}
point_in_range text p (inr (inr (inl a))) =
    let r = civil_in_range a.0 p.low a.2 in record {
      low_in = (omega (arith, ints, r.0), omega (arith, ints, r.1));
      high_in = (omega (arith, ints, a.3), omega (arith, ints, a.3));
      ordered = omega (arith, ints, r.1, a.3);
    }
point_in_range text p (inr (inr (inr (inl a)))) =
    let r = civil_in_range a.0 p.high a.3 in record {
      low_in = (omega (arith, ints, a.2), omega (arith, ints, a.2));
      high_in = (omega (arith, ints, r.0), omega (arith, ints, r.1));
      ordered = omega (arith, ints, r.0, a.2);
    }
point_in_range text p (inr (inr (inr (inr a)))) =
    let r = civil_in_range a.0 p.low a.3 in
    let s = civil_in_range a.1 p.high a.4 in record {
      low_in = (omega (arith, ints, r.0), omega (arith, ints, r.1));
      high_in = (omega (arith, ints, s.0), omega (arith, ints, s.1));
      ordered = omega (arith, ints, a.5);
    }

-- what is found for the text is its point
pub point_of-sound : (text : List ℕ) (p : Point) → point_of text ≡ Some p → IsPointText text p
unfolding point_of
point_of-sound text p e =
    let a = points_sound (if_text point_text text) p e in
    let b = if_text_sound point_text text a.0 p a.2 in
    subst (λ t. IsPointText t p) b.0 (IsPointText-point_text p (subst IsPoint b.1 a.1))

-- the point of a point text is found
pub point_of-complete : (text : List ℕ) (p : Point) → IsPointText text p → point_of text ≡ Some p
unfolding point_of
point_of-complete text p h =
    let r = point_in_range text p h in
    let a = points_complete (if_text point_text text) p p r (if_text_complete point_text text p (point_text-is text p r h)) in
    a.1 ∙ ap Some (one_point text a.0 p (point_of-sound text a.0 a.1) h)

-- what is found for the text is its period
pub period_of-sound : (text : List ℕ) (i : Period) → period_of text ≡ Some i → IsPeriodText text i
unfolding period_of
period_of-sound text i e =
    let a = periods_sound (if_text period_text text) i e in
    let b = if_text_sound period_text text a.0 i a.2 in
    subst (λ t. IsPeriodText t i) b.0 (IsPeriodText-period_text i (subst IsPeriod b.1 a.1))

-- the period of a period text is found
pub period_of-complete : (text : List ℕ) (i : Period) → IsPeriodText text i → period_of text ≡ Some i
unfolding period_of
period_of-complete text i h =
    let r : IsPeriod i = record { start_is = point_in_range h.0 i.start h.3; end_is = point_in_range h.1 i.end h.4 } in
    let a = periods_complete (if_text period_text text) i i r (if_text_complete period_text text i (period_text-is text i r h)) in
    a.1 ∙ ap Some (one_period text a.0 i (period_of-sound text a.0 a.1) h)
