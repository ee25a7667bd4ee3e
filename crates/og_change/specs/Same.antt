-- Days on which something is as it is on one of them, and the longest range of such days.
use Rattle.std.specs.Prelude.{◌≡◌, ◌≤ℤ◌, ◌-ℤ◌, ℤ, pos, true}
use Rattle.og_base.specs.Calendar.{IsRefDay}
use Rattle.og_base.specs.Ranges.{Range, IsRange, in_range}

-- the first range is a part of the second
abbrev pub IsPart : Range → Range → Type 0
IsPart part whole = (whole.lo ≤ℤ part.lo) × (part.hi ≤ℤ whole.hi)

-- a range around the day, and something is so on all of its days
pub record IsAround (IsSo : ℤ → Type 0) (day : ℤ) (range : Range) : Type 0 where
  pub is_range : IsRange range
  pub around : in_range range day ≡ true
  pub so : (d : ℤ) → in_range range d ≡ true → IsSo d

-- the longest of these: each other one is a part of it
pub record IsLongest (IsSo : ℤ → Type 0) (day : ℤ) (range : Range) : Type 0 where
  pub one : IsAround IsSo day range
  pub longest : (other : Range) → IsAround IsSo day other → IsPart other range

-- it is not so on the day before the range, nor on the day after it, where there are such days
pub record IsBounded (IsSo : ℤ → Type 0) (range : Range) : Type 0 where
  pub before : IsRefDay (range.lo -ℤ pos 1) → ¬ IsSo (range.lo -ℤ pos 1)
  pub after : IsRefDay range.hi → ¬ IsSo range.hi
