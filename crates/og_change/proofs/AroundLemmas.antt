-- Ranges around a day: that one is the longest, and how a set of days stays as it is on a day.
use Rattle.std.proofs.Common.{◌≡◌, ◌⊎◌, ◌↔◌, ◌+◌, ◌≤◌, ◌<ℤ◌, ℕ, suc, length, drop, slice_get, Some, subst, add-one, drop-cons, ◌≤ℤ◌, ◌-ℤ◌, ℤ, pos, Bool, true, false, ◌&&◌, int_lt, List, [], ◌∷◌, if◌then◌else◌, refl, sym, ap, ap₂, ◌∙◌, inl, inr, ⊎_elim, true≢false, arith}
use Rattle.std.proofs.lemmas.Int.{ints}
use Rattle.std.proofs.lemmas.List.{drop_all}
use Rattle.std.proofs.lemmas.Option.{slice_get_within, get_or_from_slice_get}
use Rattle.og_base.specs.Calendar.{IsRefDay, IsExtDay, first_day, after_all}
use Rattle.og_base.specs.Ranges.{Range, IsRange, IsNormal, BeginAfter, in_range, holds_day}
use Rattle.og_base.proofs.BoundaryLemmas.{by_day, int_lt-yes, int_lt-no}
use Rattle.og_change.specs.Same.{IsAround, IsBounded, IsLongest}

-- a range holds the days from its first one up to the day before its end
pub in_range-yes : (r : Range) (d : ℤ) → r.lo ≤ℤ d → d <ℤ r.hi → in_range r d ≡ true
in_range-yes r d l h = let e = int_lt-no d r.lo l in let f = int_lt-yes d r.hi h in rw (e, f) refl

-- and no other: not the days before it
pub in_range-before : (r : Range) (d : ℤ) → d <ℤ r.lo → in_range r d ≡ false
in_range-before r d l = let e = int_lt-yes d r.lo l in rw e refl

-- nor those from its end on
pub in_range-after : (r : Range) (d : ℤ) → r.hi ≤ℤ d → in_range r d ≡ false
in_range-after r d h = by_day d r.lo
    (λ l e. rw e refl)
    (λ l e. let f = int_lt-no d r.hi h in rw (e, f) refl)

-- the days that two ranges share are those from the later of their first days up to the earlier of their ends
pub in_range-shared : (a b both : Range) → a.lo ≤ℤ both.lo → b.lo ≤ℤ both.lo → (both.lo ≡ a.lo) ⊎ (both.lo ≡ b.lo) → both.hi ≤ℤ a.hi → both.hi ≤ℤ b.hi → (both.hi ≡ a.hi) ⊎ (both.hi ≡ b.hi)
    → (d : ℤ) → in_range both d ≡ (in_range a d && in_range b d)
in_range-shared a b both la lb lo ha hb hi d =
    by_day d both.lo
    (λ l _. rw (in_range-before both d l)
    (⊎_elim (λ e. rw (in_range-before a d (omega (arith, ints, e))) refl) (λ e. rw (in_range-before b d (omega (arith, ints, e))) (sym (and_false (in_range a d)))) lo))
    (λ l _. by_day d both.hi
    (λ m _. rw (in_range-yes both d l m, in_range-yes a d (omega (arith, ints)) (omega (arith, ints)), in_range-yes b d (omega (arith, ints)) (omega (arith, ints))) refl)
    (λ m _. rw (in_range-after both d m)
    (⊎_elim (λ e. rw (in_range-after a d (omega (arith, ints, e))) refl) (λ e. rw (in_range-after b d (omega (arith, ints, e))) (sym (and_false (in_range a d)))) hi)))
  where
    and_false : (x : Bool) → (x && false) ≡ false
    and_false true = refl
    and_false false = refl

-- where each begins before the other ends, these are the days of a range
pub IsRange-shared : (a b both : Range) → IsRange a → IsRange b → a.lo <ℤ b.hi → b.lo <ℤ a.hi → (both.lo ≡ a.lo) ⊎ (both.lo ≡ b.lo) → (both.hi ≡ a.hi) ⊎ (both.hi ≡ b.hi) → IsRange both
IsRange-shared a b both m n f g lo hi = record {
  lo_in = ⊎_elim (λ e. subst IsRefDay (sym e) m.lo_in) (λ e. subst IsRefDay (sym e) n.lo_in) lo;
  hi_in = ⊎_elim (λ e. subst IsExtDay (sym e) m.hi_in) (λ e. subst IsExtDay (sym e) n.hi_in) hi;
  some =
      let h = m.some in
      let k = n.some in
      ⊎_elim (λ e. ⊎_elim (λ i. omega (arith, ints, e, i)) (λ i. omega (arith, ints, e, i)) hi) (λ e. ⊎_elim (λ i. omega (arith, ints, e, i)) (λ i. omega (arith, ints, e, i)) hi) lo;
}

-- a day that it holds lies between its ends
pub in_range-ends : (r : Range) (d : ℤ) → in_range r d ≡ true → (r.lo ≤ℤ d) × (d <ℤ r.hi)
in_range-ends r d h = by_day d r.lo
    (λ l _. absurd (true≢false (sym h ∙ in_range-before r d l)))
    (λ l _. by_day d r.hi
    (λ m _. (l, m))
    (λ m _. absurd (true≢false (sym h ∙ in_range-after r d m))))

-- the days of a range are reference days
pub ref_day : (r : Range) (d : ℤ) → IsRange r → in_range r d ≡ true → IsRefDay d
ref_day r d is h =
    let ends = in_range-ends r d h in
    (omega (arith, ints, is.lo_in, ends), omega (arith, ints, is.hi_in, ends))

-- through a range something is also so that follows, on reference days, from what is so there
pub around-same : (P Q : ℤ → Type 0) (day : ℤ) (range : Range) → ((d : ℤ) → IsRefDay d → P d → Q d) → IsAround P day range → IsAround Q day range
around-same P Q day range there a = record {
  is_range = a.is_range;
  around = a.around;
  so = λ d h. there d (ref_day range d a.is_range h) (a.so d h);
}

-- where each follows from the other, the longest range for the one is that for the other
pub longest-same : (P Q : ℤ → Type 0) (day : ℤ) (range : Range) → ((d : ℤ) → IsRefDay d → P d ↔ Q d) → IsLongest P day range → IsLongest Q day range
longest-same P Q day range same l = record {
  one = around-same P Q day range (λ d r. (same d r).0) l.one;
  longest = λ other a. l.longest other (around-same Q P day other (λ d r. (same d r).1) a);
}

-- a range that is bounded is the longest one
pub longest-bounded : (P : ℤ → Type 0) (day : ℤ) (range : Range) → IsAround P day range → IsBounded P range → IsLongest P day range
longest-bounded P day range a b = record { one = a; longest = λ other o. (lower other o, upper other o) }
  where
    here : (range.lo ≤ℤ day) × (day <ℤ range.hi)
    here = in_range-ends range day a.around

    lower : (other : Range) → IsAround P day other → range.lo ≤ℤ other.lo
    lower other o =
        let there = in_range-ends other day o.around in
        by_day other.lo range.lo
        (λ l _. let h = in_range-yes other (range.lo -ℤ pos 1) (omega (arith, ints)) (omega (arith, ints, here, there)) in
        absurd (b.before (ref_day other (range.lo -ℤ pos 1) o.is_range h) (o.so (range.lo -ℤ pos 1) h)))
        (λ l _. l)

    upper : (other : Range) → IsAround P day other → other.hi ≤ℤ range.hi
    upper other o =
        let there = in_range-ends other day o.around in
        by_day range.hi other.hi
        (λ l _. let h = in_range-yes other range.hi (omega (arith, ints, here, there)) l in
        absurd (b.after (ref_day other range.hi o.is_range h) (o.so range.hi h)))
        (λ l _. l)

-- ranges in normal form hold no day before the first of them
none_before : (r : Range) (rs : List Range) (d : ℤ) → IsNormal (r ∷ rs) → d <ℤ r.lo → holds_day (r ∷ rs) d ≡ false
none_before r [] d n l = let e = in_range-before r d l in rw e refl
none_before r (s ∷ rs) d n l =
    let e = in_range-before r d l in
    let f = none_before s rs d n.2 (omega (arith, ints, n.0.some, n.1)) in
    rw e f

-- nor a day up to that after which they begin
none_up_to : (end : ℤ) (rs : List Range) (d : ℤ) → IsNormal rs → BeginAfter end rs → d ≤ℤ end → holds_day rs d ≡ false
none_up_to end [] d n b l = refl
none_up_to end (r ∷ rs) d n b l = none_before r rs d n (omega (arith, ints, b))

-- the first range holds a day
held_first : (r : Range) (rs : List Range) (d : ℤ) → r.lo ≤ℤ d → d <ℤ r.hi → holds_day (r ∷ rs) d ≡ true
held_first r rs d l h = let e = in_range-yes r d l h in rw e refl

-- past the first range only the others hold a day
held_rest : (r : Range) (rs : List Range) (d : ℤ) → r.hi ≤ℤ d → holds_day (r ∷ rs) d ≡ holds_day rs d
held_rest r rs d h = let e = in_range-after r d h in rw e refl

-- the range of the ranges or of the days between them in which the day lies, where `low` begins the days before the first range
abbrev pub lies_in : ℤ → List Range → ℤ → Range
lies_in low [] d = record { lo = low; hi = after_all }
lies_in low (r ∷ rs) d = if int_lt d r.lo then record { lo = low; hi = r.lo } else (if int_lt d r.hi then r else lies_in r.hi rs d)

-- the rest of the ranges of a set, from the day `low` on
record IsRest (set : List Range) (low : ℤ) (rs : List Range) : Type 0 where
  normal : IsNormal rs
  first : (low ≡ first_day) ⊎ BeginAfter low rs
  low_in : IsRefDay low
  tells : (d : ℤ) → low ≤ℤ d → holds_day set d ≡ holds_day rs d
  before : IsRefDay (low -ℤ pos 1) → holds_day set (low -ℤ pos 1) ≡ true

-- a set that holds one of two days alone does not say the same of both
differ : (a b : Bool) → a ≡ true → b ≡ false → ¬ (a ≡ b)
differ a b t f e = true≢false (sym t ∙ e ∙ f)

-- and where it is the other one
differ_back : (a b : Bool) → a ≡ false → b ≡ true → ¬ (a ≡ b)
differ_back a b f t e = true≢false (sym t ∙ sym e ∙ f)

module _ (set : List Range) (d : ℤ) (d_in : IsRefDay d) where
  -- after all ranges
  longest-end : (low : ℤ) → low ≤ℤ d → IsRest set low [] → IsLongest (λ e. holds_day set e ≡ holds_day set d) d (record { lo = low; hi = after_all })
  longest-end low l rest =
      let none : (e : ℤ) → low ≤ℤ e → holds_day set e ≡ false = λ e m. rest.tells e m in
      let range : Range = record { lo = low; hi = after_all } in
      longest-bounded (λ e. holds_day set e ≡ holds_day set d) d range
      (record {
        is_range = record { lo_in = rest.low_in; hi_in = (omega (arith, ints), omega (arith, ints)); some = omega (arith, ints, rest.low_in) };
        around = in_range-yes range d l (omega (arith, ints, d_in));
        so = λ e h. none e (in_range-ends range e h).0 ∙ sym (none d l);
      })
      (record {
        before = λ r. differ (holds_day set (low -ℤ pos 1)) (holds_day set d) (rest.before r) (none d l);
        after = λ r. absurd (omega (arith, ints, r));
      })

  -- before the first range
  longest-gap : (low : ℤ) (r : Range) (rs : List Range) → low ≤ℤ d → d <ℤ r.lo → IsRest set low (r ∷ rs) → IsLongest (λ e. holds_day set e ≡ holds_day set d) d (record { lo = low; hi = r.lo })
  longest-gap low r rs l m rest =
      let none : (e : ℤ) → low ≤ℤ e → e <ℤ r.lo → holds_day set e ≡ false = λ e k h. rest.tells e k ∙ none_before r rs e rest.normal h in
      let range : Range = record { lo = low; hi = r.lo } in
      let begin = rest.normal.0.lo_in in
      longest-bounded (λ e. holds_day set e ≡ holds_day set d) d range
      (record {
        is_range = record { lo_in = rest.low_in; hi_in = (omega (arith, ints, begin), omega (arith, ints, begin)); some = omega (arith, ints) };
        around = in_range-yes range d l m;
        so = λ e h. let ends = in_range-ends range e h in none e ends.0 ends.1 ∙ sym (none d l m);
      })
      (record {
        before = λ k. differ (holds_day set (low -ℤ pos 1)) (holds_day set d) (rest.before k) (none d l m);
        after = λ k. differ (holds_day set r.lo) (holds_day set d) (rest.tells r.lo (omega (arith, ints)) ∙ held_first r rs r.lo (omega (arith, ints)) rest.normal.0.some) (none d l m);
      })

  -- in the first range
  longest-range : (low : ℤ) (r : Range) (rs : List Range) → low ≤ℤ d → r.lo ≤ℤ d → d <ℤ r.hi → IsRest set low (r ∷ rs) → IsLongest (λ e. holds_day set e ≡ holds_day set d) d r
  longest-range low r rs l m h rest =
      let low_first : low ≤ℤ r.lo = ⊎_elim (λ e. omega (arith, ints, e, rest.normal.0.lo_in)) (λ b. omega (arith, ints, b)) rest.first in
      let all : (e : ℤ) → r.lo ≤ℤ e → e <ℤ r.hi → holds_day set e ≡ true = λ e k i. rest.tells e (omega (arith, ints)) ∙ held_first r rs e k i in
      longest-bounded (λ e. holds_day set e ≡ holds_day set d) d r
      (record {
        is_range = rest.normal.0;
        around = in_range-yes r d m h;
        so = λ e i. let ends = in_range-ends r e i in all e ends.0 ends.1 ∙ sym (all d m h);
      })
      (record {
        before = λ k. differ_back (holds_day set (r.lo -ℤ pos 1)) (holds_day set d)
            (rest.tells (r.lo -ℤ pos 1) (⊎_elim (λ e. omega (arith, ints, e, k)) (λ b. omega (arith, ints, b)) rest.first) ∙ none_before r rs (r.lo -ℤ pos 1) rest.normal (omega (arith, ints))) (all d m h);
        after = λ k. differ_back (holds_day set r.hi) (holds_day set d)
            (rest.tells r.hi (omega (arith, ints)) ∙ held_rest r rs r.hi (omega (arith, ints)) ∙ none_up_to r.hi rs r.hi rest.normal.2 rest.normal.1 (omega (arith, ints))) (all d m h);
      })

  -- the ranges after the first are the rest from its end on
  rest-next : (low : ℤ) (r : Range) (rs : List Range) → r.hi ≤ℤ d → IsRest set low (r ∷ rs) → IsRest set r.hi rs
  rest-next low r rs h rest =
      let low_first : low ≤ℤ r.lo = ⊎_elim (λ e. omega (arith, ints, e, rest.normal.0.lo_in)) (λ b. omega (arith, ints, b)) rest.first in
      let some = rest.normal.0.some in
      record {
        normal = rest.normal.2;
        first = inr rest.normal.1;
        low_in = (omega (arith, ints, rest.normal.0.lo_in), omega (arith, ints, d_in));
        tells = λ e k. rest.tells e (omega (arith, ints)) ∙ held_rest r rs e k;
        before = λ k. rest.tells (r.hi -ℤ pos 1) (omega (arith, ints)) ∙ held_first r rs (r.hi -ℤ pos 1) (omega (arith, ints)) (omega (arith, ints));
      }

  longest-rest : (low : ℤ) (rs : List Range) → low ≤ℤ d → IsRest set low rs → IsLongest (λ e. holds_day set e ≡ holds_day set d) d (lies_in low rs d)
  longest-rest low [] l rest = longest-end low l rest
  longest-rest low (r ∷ rs) l rest =
      by_day d r.lo
      (λ m e. rw e (longest-gap low r rs l m rest))
      (λ m e. by_day d r.hi
      (λ h f. rw (e, f) (longest-range low r rs l m h rest))
      (λ h f. rw (e, f) (longest-rest r.hi rs h (rest-next low r rs h rest))))

  -- the range in which the day lies is the longest one around it
  longest-lies_in : IsNormal set → IsLongest (λ e. holds_day set e ≡ holds_day set d) d (lies_in first_day set d)
  longest-lies_in normal =
      longest-rest first_day set d_in.0
      (record { normal = normal; first = inl refl; low_in = (omega (arith, ints), omega (arith, ints)); tells = λ e _. refl; before = λ r. absurd (omega (arith, ints, r)) })

-- what is left from a place on is the range at that place and what is left after it
left_at : (set : List Range) (i : ℕ) (r : Range) → slice_get set i ≡ Some r → drop i set ≡ r ∷ drop (i + 1) set
left_at set i r e = rw add-one (drop-cons set i r (slice_get_within set i r e) ∙ ap (λ q. q ∷ drop (suc i) set) (get_or_from_slice_get set i r r e))

-- the day lies in the range of the set in which it lies from a place on
pub record IsLeft (set : List Range) (d : ℤ) (low : ℤ) (i : ℕ) : Type 0 where
  pub lies : lies_in low (drop i set) d ≡ lies_in first_day set d
  pub reached : low ≤ℤ d

-- a reference day is before an end that is later than some reference day, and is none
pub before_end : (d lo hi : ℤ) → IsRefDay d → lo <ℤ hi → IsRefDay lo → (IsRefDay hi → ⊥) → d <ℤ hi
before_end d lo hi d_in some lo_in not_in =
    by_day d hi
    (λ l _. l)
    (λ l _. absurd (not_in (omega (arith, ints), omega (arith, ints, d_in))))

-- at first all is left
pub left-first : (set : List Range) (d : ℤ) → IsRefDay d → IsLeft set d first_day 0
left-first set d d_in = record { lies = refl; reached = d_in.0 }

module _ (set : List Range) (d : ℤ) (d_in : IsRefDay d) (normal : IsNormal set) (low : ℤ) (i : ℕ) (left : IsLeft set d low i) where
  -- with the range at that place in front
  lies_at : (r : Range) → slice_get set i ≡ Some r → lies_in low (r ∷ drop (i + 1) set) d ≡ lies_in first_day set d
  lies_at r e = ap (λ rs. lies_in low rs d) (sym (left_at set i r e)) ∙ left.lies

  -- before the range at that place
  pub longest-before : (r : Range) → slice_get set i ≡ Some r → d <ℤ r.lo → IsLongest (λ e. holds_day set e ≡ holds_day set d) d (record { lo = low; hi = r.lo })
  longest-before r e l =
      let f = int_lt-yes d r.lo l in
      subst (IsLongest (λ e. holds_day set e ≡ holds_day set d) d) (sym (rw f at (lies_at r e))) (longest-lies_in set d d_in normal)

  -- in the range at that place
  pub longest-within : (r : Range) → slice_get set i ≡ Some r → r.lo ≤ℤ d → d <ℤ r.hi → IsLongest (λ e. holds_day set e ≡ holds_day set d) d r
  longest-within r e l h =
      let f = int_lt-no d r.lo l in
      let g = int_lt-yes d r.hi h in
      subst (IsLongest (λ e. holds_day set e ≡ holds_day set d) d) (sym (rw (f, g) at (lies_at r e))) (longest-lies_in set d d_in normal)

  -- past the range at that place
  pub left-next : (r : Range) → slice_get set i ≡ Some r → r.lo ≤ℤ d → r.hi ≤ℤ d → IsLeft set d r.hi (i + 1)
  left-next r e l h =
      let f = int_lt-no d r.lo l in
      let g = int_lt-no d r.hi h in
      record { lies = rw (f, g) at (lies_at r e); reached = h }

  -- past all ranges
  pub longest-after : length set ≤ i → IsLongest (λ e. holds_day set e ≡ holds_day set d) d (record { lo = low; hi = after_all })
  longest-after l =
      subst (IsLongest (λ e. holds_day set e ≡ holds_day set d) d) (sym left.lies ∙ ap (λ rs. lies_in low rs d) (drop_all i set l)) (longest-lies_in set d d_in normal)

-- where a set holds exactly the days on which something is so, the longest range through which it holds all days is the longest through which it is so
pub longest_told : (IsSo : ℤ → Type 0) (set : List Range) (d : ℤ) (range : Range) → ((e : ℤ) → IsRefDay e → (holds_day set e ≡ true) ↔ IsSo e) → IsSo d
    → IsLongest (λ e. holds_day set e ≡ holds_day set d) d range → IsLongest IsSo d range
longest_told IsSo set d range tells here longest =
    let held = (tells d (ref_day range d longest.one.is_range longest.one.around)).1 here in
    longest-same (λ e. holds_day set e ≡ holds_day set d) IsSo d range (λ e r. (λ k. (tells e r).0 (k ∙ held), λ so. (tells e r).1 so ∙ sym held)) longest

-- two ranges around a day each begin before the other ends
pub begin_before : (first second : Range) (day : ℤ) → in_range first day ≡ true → in_range second day ≡ true → (first.lo <ℤ second.hi) × (second.lo <ℤ first.hi)
begin_before first second day a b =
    let here = in_range-ends first day a in
    let there = in_range-ends second day b in
    (omega (arith, ints, here, there), omega (arith, ints, here, there))

-- through the days that two ranges around a day share, what is so through each of them gives what is so through both
pub around-shared : (P Q S : ℤ → Type 0) (day : ℤ) (first second both : Range) → IsAround P day first → IsAround Q day second → IsRange both
    → ((e : ℤ) → in_range both e ≡ (in_range first e && in_range second e)) → ((e : ℤ) → P e → Q e → S e) → IsAround S day both
around-shared P Q S day first second both a b is holds gives = record {
  is_range = is;
  around = holds day ∙ ap₂ (λ x y. x && y) a.around b.around;
  so = λ e h. let parts = and_parts (in_range first e) (in_range second e) (sym (holds e) ∙ h) in gives e (a.so e parts.0) (b.so e parts.1);
}
  where
    and_parts : (x y : Bool) → (x && y) ≡ true → (x ≡ true) × (y ≡ true)
    and_parts true y e = (refl, e)
    and_parts false y e = absurd (true≢false (sym e))
