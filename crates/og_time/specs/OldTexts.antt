-- The texts of points and of periods in the earlier calendar, whose first day was 0001-01-01. Their ends have its numbers.
use Rattle.std.specs.Prelude.{◌≡◌, ◌⊎◌, ◌++◌, ◌<ℤ◌, ◌≤ℤ◌, List, ℕ, codes}
use Rattle.og_base.specs.OldTexts.{IsOldDay, IsOldDayText, IsOldRefDayText, old_before, old_after}
use Rattle.og_time.specs.Point.{Point}
use Rattle.og_time.specs.Period.{Period, bracketed}

-- a point of the earlier calendar: two of its extended days, the first at most the second
pub record IsOldPoint (p : Point) : Type 0 where
  pub low_in : IsOldDay p.low
  pub high_in : IsOldDay p.high
  pub ordered : p.low ≤ℤ p.high

-- a period of the earlier calendar: both ends are points of it
pub record IsOldPeriod (i : Period) : Type 0 where
  pub start_is : IsOldPoint i.start
  pub end_is : IsOldPoint i.end

-- X: the fixed point X+X
abbrev pub IsOldFixedText : List ℕ → Point → Type 0
IsOldFixedText text p = IsOldDayText text p.low × (p.high ≡ p.low)

-- now: the point -infinity+infinity
abbrev pub IsOldNowText : List ℕ → Point → Type 0
IsOldNowText text p = (text ≡ codes "now") × (p.low ≡ old_before) × (p.high ≡ old_after)

-- P+: the growing point P+infinity
abbrev pub IsOldGrowingText : List ℕ → Point → Type 0
IsOldGrowingText text p =
    (day : List ℕ) × (text ≡ day ++ codes "+") × IsOldRefDayText day p.low × (p.high ≡ old_after)

-- +Q: the limited point -infinity+Q
abbrev pub IsOldLimitedText : List ℕ → Point → Type 0
IsOldLimitedText text p =
    (day : List ℕ) × (text ≡ codes "+" ++ day) × (p.low ≡ old_before) × IsOldRefDayText day p.high

-- P+Q, where P is before Q
abbrev pub IsOldBetweenText : List ℕ → Point → Type 0
IsOldBetweenText text p =
    (first last : List ℕ) × (text ≡ first ++ codes "+" ++ last)
    × IsOldRefDayText first p.low × IsOldRefDayText last p.high × (p.low <ℤ p.high)

-- a point text of the earlier calendar, and its point with the numbers that its ends had there
abbrev pub IsOldPointText : List ℕ → Point → Type 0
IsOldPointText text p =
    IsOldFixedText text p
    ⊎ (IsOldNowText text p ⊎ (IsOldGrowingText text p ⊎ (IsOldLimitedText text p ⊎ IsOldBetweenText text p)))

-- a period text of the earlier calendar, and its period: the texts of its two points
abbrev pub IsOldPeriodText : List ℕ → Period → Type 0
IsOldPeriodText text i =
    (first last : List ℕ) × (text ≡ bracketed first last) × IsOldPointText first i.start × IsOldPointText last i.end
