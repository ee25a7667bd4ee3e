-- Ongoing periods: their values on a day, and their texts.
use Rattle.std.specs.Prelude.{◌≡◌, ◌++◌, ℤ, List, ℕ, codes}
use Rattle.og_base.specs.Bytes.{Lacks}
use Rattle.og_base.specs.declared.range.FixedPeriod.{FixedPeriod}
use Rattle.og_time.specs.Point.{Point, IsPoint, point_at, IsPointText, point_text}

-- the period [start,end)
pub record Period : Type 0 where
  pub start : Point
  pub end : Point

-- both ends are points
pub record IsPeriod (i : Period) : Type 0 where
  pub start_is : IsPoint i.start
  pub end_is : IsPoint i.end

-- period at a day: the pair of its ends at that day
abbrev pub period_at : Period → ℤ → FixedPeriod
period_at i d = record { start = point_at i.start d; end = point_at i.end d }

-- first and last stand round a comma between the brackets
abbrev pub bracketed : List ℕ → List ℕ → List ℕ
bracketed first last = codes "[" ++ first ++ codes "," ++ last ++ codes ")"

-- a period text, and its period: the texts of its two points
abbrev pub IsPeriodText : List ℕ → Period → Type 0
IsPeriodText text i =
    (first last : List ℕ) × (text ≡ bracketed first last) × IsPointText first i.start × IsPointText last i.end

-- the one text of a period
abbrev pub period_text : Period → List ℕ
period_text i = bracketed (point_text i.start) (point_text i.end)

-- the text is cut at its first comma between the brackets
pub record AreSides (text first last : List ℕ) : Type 0 where
  pub joined : text ≡ bracketed first last
  pub first_lacks : Lacks 44 first
