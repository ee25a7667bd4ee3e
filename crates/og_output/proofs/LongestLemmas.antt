-- The days of a range, and the longest range of days around a day.
use Rattle.std.proofs.Common.{◌≡◌, ◌↔◌, ◌≤ℤ◌, ◌<ℤ◌, ℤ, true, refl, sym, ap₂, ◌∙◌, true≢false, arith}
use Rattle.std.proofs.lemmas.Int.{ints}
use Rattle.og_base.specs.Calendar.{IsRefDay}
use Rattle.og_base.specs.Ranges.{Range, IsRange, in_range}
use Rattle.og_base.proofs.BoundaryLemmas.{by_day, int_lt-no, int_lt-yes}
use Rattle.og_change.specs.Same.{IsLongest}

-- a day of a range is between its ends
pub in_range-between : (r : Range) (d : ℤ) → in_range r d ≡ true → (r.lo ≤ℤ d) × (d <ℤ r.hi)
in_range-between r d h = by_day d r.lo (λ _ e. absurd (true≢false (sym h ∙ rw e refl)))
    (λ low e. by_day d r.hi (λ high _. (low, high)) (λ _ f. absurd (true≢false (sym h ∙ rw (e, f) refl))))

-- and what is between them is a day of it
pub between-in_range : (r : Range) (d : ℤ) → r.lo ≤ℤ d → d <ℤ r.hi → in_range r d ≡ true
between-in_range r d low high = let e = int_lt-no d r.lo low in let f = int_lt-yes d r.hi high in rw (e, f) refl

-- it is a reference day
pub in_range-day : (r : Range) (d : ℤ) → IsRange r → in_range r d ≡ true → IsRefDay d
in_range-day r d range h = let b = in_range-between r d h in (omega (arith, ints, range.lo_in, b.0), omega (arith, ints, range.hi_in, b.1))

-- there is one longest range
pub one_longest : (IsSo : ℤ → Type 0) (day : ℤ) (a b : Range) → IsLongest IsSo day a → IsLongest IsSo day b → a ≡ b
one_longest IsSo day a b p q =
    let to = q.longest a p.one in
    let back = p.longest b q.one in
    let lo : a.lo ≡ b.lo = omega (arith, ints, to.0, back.0) in
    let hi : a.hi ≡ b.hi = omega (arith, ints, to.1, back.1) in ap₂ range_of lo hi
  where
    range_of : ℤ → ℤ → Range
    range_of lo hi = record { lo = lo; hi = hi }

-- it is that of what says the same of each reference day
pub same_longest : (IsSo IsToo : ℤ → Type 0) (day : ℤ) (r : Range) → ((d : ℤ) → IsRefDay d → IsSo d ↔ IsToo d) → IsLongest IsSo day r → IsLongest IsToo day r
same_longest IsSo IsToo day r same l = record {
  one = record { is_range = l.one.is_range; around = l.one.around; so = λ d within. (same d (in_range-day r d l.one.is_range within)).0 (l.one.so d within) };
  longest = λ other a. l.longest other (record { is_range = a.is_range; around = a.around; so = λ d within. (same d (in_range-day other d a.is_range within)).1 (a.so d within) });
}
