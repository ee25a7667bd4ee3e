-- Sets of reference days as rising ranges.
use Rattle.std.specs.Prelude.{◌≡◌, ◌<ℤ◌, ℤ, Bool, false, not, ◌&&◌, ◌||◌, int_lt, List, [], ◌∷◌, Option, Some, None, ⊤}
use Rattle.og_base.specs.Calendar.{IsRefDay, IsExtDay}

-- the days from lo on, up to the day before hi
pub record Range : Type 0 where
  pub lo : ℤ
  pub hi : ℤ

-- a reference day, and a later reference day or infinity
pub record IsRange (r : Range) : Type 0 where
  pub lo_in : IsRefDay r.lo
  pub hi_in : IsExtDay r.hi
  pub some : r.lo <ℤ r.hi

-- whether the range holds the day
abbrev pub in_range : Range → ℤ → Bool
in_range r d = not (int_lt d r.lo) && int_lt d r.hi

-- whether one of the ranges holds the day
abbrev pub holds_day : List Range → ℤ → Bool
holds_day [] d = false
holds_day (r ∷ rs) d = in_range r d || holds_day rs d

-- the ranges begin after that day, and so do not touch what ends there
abbrev pub BeginAfter : ℤ → List Range → Type 0
BeginAfter end [] = ⊤
BeginAfter end (r ∷ rs) = end <ℤ r.lo

-- the one normal form of a set of days: ranges that rise and do not touch
abbrev pub IsNormal : List Range → Type 0
IsNormal [] = ⊤
IsNormal (r ∷ rs) = IsRange r × BeginAfter r.hi rs × IsNormal rs

-- at most two ranges
pub record CutRanges : Type 0 where
  pub first : Option Range
  pub second : Option Range

-- the ranges of a cut, in order
abbrev pub ranges_of_cut : CutRanges → List Range
ranges_of_cut c = beside c.first (beside c.second [])
  where
    beside : Option Range → List Range → List Range
    beside None rest = rest
    beside (Some r) rest = r ∷ rest

-- they rise and do not touch, and the second stands only beside the first
pub record IsCut (c : CutRanges) : Type 0 where
  pub normal : IsNormal (ranges_of_cut c)
  pub beside : c.first ≡ None → c.second ≡ None
