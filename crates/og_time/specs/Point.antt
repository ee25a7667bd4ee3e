-- Ongoing points: their values on a day, and their texts.
use Rattle.std.specs.Prelude.{◌≡◌, ◌+◌, ◌<◌, length, [], ◌⊎◌, ◌++◌, ◌≤ℤ◌, ◌<ℤ◌, ℤ, List, ℕ, codes, int_lt, ◌&&◌, if◌then◌else◌}
use Rattle.std.specs.Ordering.{int_eq}
use Rattle.og_base.specs.Calendar.{IsExtDay, IsDayText, IsRefDayText, before_all, after_all, day_text}

-- the point low+high
pub record Point : Type 0 where
  pub low : ℤ
  pub high : ℤ

-- two extended days, the first at most the second
pub record IsPoint (p : Point) : Type 0 where
  pub low_in : IsExtDay p.low
  pub high_in : IsExtDay p.high
  pub ordered : p.low ≤ℤ p.high

-- point at a day: a+b on d is a where d is at most a, d where d is between, and b otherwise
abbrev pub point_at : Point → ℤ → ℤ
point_at p d =
    if int_lt p.low d then (if int_lt d p.high then d else p.high)
    else p.low

-- X: the fixed point X+X
abbrev pub IsFixedText : List ℕ → Point → Type 0
IsFixedText text p = IsDayText text p.low × (p.high ≡ p.low)

-- now: the point -infinity+infinity
abbrev pub IsNowText : List ℕ → Point → Type 0
IsNowText text p = (text ≡ codes "now") × (p.low ≡ before_all) × (p.high ≡ after_all)

-- P+: the growing point P+infinity
abbrev pub IsGrowingText : List ℕ → Point → Type 0
IsGrowingText text p =
    (day : List ℕ) × (text ≡ day ++ codes "+") × IsRefDayText day p.low × (p.high ≡ after_all)

-- +Q: the limited point -infinity+Q
abbrev pub IsLimitedText : List ℕ → Point → Type 0
IsLimitedText text p =
    (day : List ℕ) × (text ≡ codes "+" ++ day) × (p.low ≡ before_all) × IsRefDayText day p.high

-- P+Q, where P is before Q
abbrev pub IsBetweenText : List ℕ → Point → Type 0
IsBetweenText text p =
    (first last : List ℕ) × (text ≡ first ++ codes "+" ++ last)
    × IsRefDayText first p.low × IsRefDayText last p.high × (p.low <ℤ p.high)

-- a point text, and its point
abbrev pub IsPointText : List ℕ → Point → Type 0
IsPointText text p =
    IsFixedText text p
    ⊎ (IsNowText text p ⊎ (IsGrowingText text p ⊎ (IsLimitedText text p ⊎ IsBetweenText text p)))

-- what stands on one side of the plus sign: nothing for an open end, or the text of a reference day
abbrev pub IsEndText : List ℕ → ℤ → ℤ → Type 0
IsEndText text open_end n = ((text ≡ []) × (n ≡ open_end)) ⊎ IsRefDayText text n

-- the two sides of the plus sign
pub record AreEndTexts (low high : List ℕ) (p : Point) : Type 0 where
  pub low_end : IsEndText low before_all p.low
  pub high_end : IsEndText high after_all p.high
  pub rising : p.low <ℤ p.high
  pub some : 0 < length low + length high

-- the one text of one side of the plus sign
abbrev pub end_text : ℤ → ℤ → List ℕ
end_text n open_end = if int_eq n open_end then [] else day_text n

-- the one text of a point: that of its day, now, or the sides of the plus sign
unfoldable pub point_text : Point → List ℕ
point_text p =
    if int_eq p.low p.high then day_text p.low
    else (if int_eq p.low before_all && int_eq p.high after_all then codes "now"
    else end_text p.low before_all ++ codes "+" ++ end_text p.high after_all)

-- a point text without a plus sign
abbrev pub IsWholeText : List ℕ → Point → Type 0
IsWholeText text p = IsFixedText text p ⊎ IsNowText text p
