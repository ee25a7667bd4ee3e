-- How many ranges there are between boundaries, which they are, and which days they hold.
use Rattle.std.proofs.Common.{◌≡◌, ◌↔◌, ◌+◌, ◌*◌, ◌/◌, ◌%◌, ◌<◌, ◌≤◌, ◌<ℤ◌, ◌≤ℤ◌, ℕ, zero, suc, ℤ, Bool, true, false, not, ◌&&◌, int_le, List, [], ◌∷◌, length, get_or, slice_get, nat_eq, cond, IsTrue, Some, refl, sym, ap, ap₂, ◌∙◌, true≢false, arith}
use Rattle.std.specs.List.Sorted.{IsPartitionedBy, IsPartitionPoint}
use Rattle.std.proofs.lemmas.Bool.{eq-eqb, eqb-true}
use Rattle.std.proofs.lemmas.Bool.Decides.{nat_tests}
use Rattle.std.proofs.lemmas.Int.{ints}
use Rattle.std.proofs.lemmas.List.{get_or_default}
use Rattle.og_base.specs.Calendar.{after_all, before_all}
use Rattle.og_base.specs.Ranges.{Range, IsRange, holds_day}
use Rattle.og_base.specs.Boundaries.{ranges_of, Rises, inside_from}
use Rattle.og_base.proofs.BoundaryLemmas.{int_lt-yes, holds_day-ranges_of, inside_from-at, inside_from-before, inside_from-past}

-- rising boundaries hold the first of them
holds_first : (b : ℤ) (bs : List ℤ) → Rises before_all (b ∷ bs) → holds_day (ranges_of (b ∷ bs)) b ≡ true
holds_first b bs up =
    let e = int_lt-yes b after_all up.1 in
    holds_day-ranges_of before_all (b ∷ bs) up b ∙ rw (inside_from-at false b bs up.2, e) refl

-- no day is held exactly where there is no boundary
pub none_held : (bs : List ℤ) (n : ℕ) → n ≡ length bs → Rises before_all bs → IsTrue (nat_eq n 0) ↔ ((d : ℤ) → holds_day (ranges_of bs) d ≡ false)
none_held [] n e up = (λ _ d. refl, λ _. eq-eqb n 0 e)
none_held (b ∷ bs) n e up = (λ h. absurd (omega (arith, eqb-true n 0 h)), λ none. absurd (true≢false (sym (holds_first b bs up) ∙ none b)))

-- two boundaries make a range, and a last one too
pub length-ranges_of : (bs : List ℤ) → length (ranges_of bs) ≡ (length bs + 1) / 2
length-ranges_of [] = omega arith
length-ranges_of (lo ∷ []) = omega arith
length-ranges_of (lo ∷ (hi ∷ bs)) = omega (arith, length-ranges_of bs)

-- a range has its lower boundary
pub lower_within : (bs : List ℤ) (i : ℕ) → i < length (ranges_of bs) → 2 * i < length bs
lower_within bs i h = omega (arith, length-ranges_of bs)

-- the range at a place, from the boundaries
abbrev pub range_at : List ℤ → ℕ → Range
range_at bs i = record { lo = get_or bs (2 * i) after_all; hi = get_or bs (2 * i + 1) after_all }

range_at-suc : (lo hi : ℤ) (bs : List ℤ) (i : ℕ) → range_at (lo ∷ hi ∷ bs) (suc i) ≡ range_at bs i
range_at-suc lo hi bs i =
    let e : 2 * suc i ≡ suc (suc (2 * i)) = omega arith in
    let f : 2 * suc i + 1 ≡ suc (suc (2 * i + 1)) = omega arith in
    rw (f, e) refl

-- the range at a place of the list
pub slice_get-ranges_of : (bs : List ℤ) (i : ℕ) → i < length (ranges_of bs) → slice_get (ranges_of bs) i ≡ Some (range_at bs i)
slice_get-ranges_of [] i h = absurd (omega (arith, h))
slice_get-ranges_of (lo ∷ []) zero h = refl
slice_get-ranges_of (lo ∷ []) (suc i) h = absurd (omega (arith, h))
slice_get-ranges_of (lo ∷ (hi ∷ bs)) zero h = refl
slice_get-ranges_of (lo ∷ (hi ∷ bs)) (suc i) h = slice_get-ranges_of bs i (omega (arith, h)) ∙ ap (λ r. Some r) (sym (range_at-suc lo hi bs i))

-- it is a range
pub IsRange-range_at : (low : ℤ) (bs : List ℤ) (i : ℕ) → before_all ≤ℤ low → Rises low bs → i < length (ranges_of bs) → IsRange (range_at bs i)
IsRange-range_at low [] i l up h = absurd (omega (arith, h))
IsRange-range_at low (lo ∷ []) zero l up h = record { lo_in = (omega (arith, ints), omega (arith, ints)); hi_in = (omega (arith, ints), omega (arith, ints)); some = up.1 }
IsRange-range_at low (lo ∷ []) (suc i) l up h = absurd (omega (arith, h))
IsRange-range_at low (lo ∷ (hi ∷ bs)) zero l up h = record { lo_in = (omega (arith, ints), omega (arith, ints)); hi_in = (omega (arith, ints), omega (arith, ints)); some = up.2.0 }
IsRange-range_at low (lo ∷ (hi ∷ bs)) (suc i) l up h = rw (range_at-suc lo hi bs i) (IsRange-range_at hi bs i (omega (arith, ints)) up.2.2 (omega (arith, h)))

-- the ends that were read are the ends of the range
pub range_at-read : (bs : List ℤ) (i : ℕ) (lo hi : ℤ) → 2 * i < length bs → lo ≡ get_or bs (2 * i) lo → hi ≡ get_or bs (2 * i + 1) after_all → range_at bs i ≡ record { lo = lo; hi = hi }
range_at-read bs i lo hi h e f =
    ap₂ (λ x y. let r : Range = record { lo = x; hi = y } in r) (get_or_default bs (2 * i) after_all lo h ∙ sym e) (sym f)

-- the boundaries at most a day come first
above_low : (low : ℤ) (bs : List ℤ) (j : ℕ) (e : ℤ) → Rises low bs → j < length bs → low <ℤ get_or bs j e
above_low low [] j e up h = absurd (omega (arith, h))
above_low low (b ∷ bs) zero e up h = up.0
above_low low (b ∷ bs) (suc j) e up h = let k = above_low b bs j e up.2 (omega (arith, h)) in omega (arith, ints)

pub IsPartitionedBy-day : (low : ℤ) (bs : List ℤ) (day : ℤ) → Rises low bs → IsPartitionedBy (λ y. int_le y day) bs
IsPartitionedBy-day low [] day up i j e l h t = absurd (omega (arith, h))
IsPartitionedBy-day low (b ∷ bs) day up zero zero e l h t = t
IsPartitionedBy-day low (b ∷ bs) day up zero (suc j) e l h t = let k = above_low b bs j e up.2 (omega (arith, h)) in grind (arith, ints, k, t)
IsPartitionedBy-day low (b ∷ bs) day up (suc i) zero e l h t = absurd (omega (arith, l))
IsPartitionedBy-day low (b ∷ bs) day up (suc i) (suc j) e l h t = IsPartitionedBy-day b bs day up.2 i j e (omega (arith, l)) (omega (arith, h)) t

-- a day is inside where an odd number of boundaries is at most it
odd-suc : (n : ℕ) (s : Bool) → cond (nat_eq (suc n % 2) 1) (not s) s ≡ cond (nat_eq (n % 2) 1) (not (not s)) (not s)
odd-suc n true = grind (arith, nat_tests)
odd-suc n false = grind (arith, nat_tests)

pub inside_from-counted : (s : Bool) (bs : List ℤ) (n : ℕ) (day : ℤ) → n ≤ length bs → IsPartitionPoint (λ y. int_le y day ≡ true) (λ y. int_le y day ≡ false) bs n → inside_from s bs day ≡ cond (nat_eq (n % 2) 1) (not s) s
inside_from-counted s [] zero day h p = refl
inside_from-counted s [] (suc n) day h p = absurd (omega (arith, h))
inside_from-counted s (b ∷ bs) zero day h p = let k = p.1 0 day (omega arith) (omega arith) in inside_from-before s b bs day (grind (arith, ints, k))
inside_from-counted s (b ∷ bs) (suc n) day h p =
    let k = p.0 0 day (omega arith) (omega arith) in
    inside_from-past s b bs day (grind (arith, ints, k))
    ∙ inside_from-counted (not s) bs n day (omega (arith, h)) ((λ i e l m. p.0 (suc i) e (omega arith) (omega (arith, m))), (λ i e l m. p.1 (suc i) e (omega (arith, l)) (omega (arith, m))))
    ∙ sym (odd-suc n s)

-- rising boundaries hold a day where an odd number of them is at most it
pub holds_day-counted : (bs : List ℤ) (n : ℕ) (day : ℤ) → Rises before_all bs → day <ℤ after_all → n ≤ length bs → IsPartitionPoint (λ y. int_le y day ≡ true) (λ y. int_le y day ≡ false) bs n → nat_eq (n % 2) 1 ≡ holds_day (ranges_of bs) day
holds_day-counted bs n day up l h p =
    let e = int_lt-yes day after_all l in
    sym (holds_day-ranges_of before_all bs up day ∙ rw (e, inside_from-counted false bs n day h p) (at (nat_eq (n % 2) 1)))
  where
    at : (b : Bool) → (cond b true false && true) ≡ b
    at true = refl
    at false = refl
