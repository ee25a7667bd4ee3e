-- The texts of sets of days.
use Rattle.std.specs.Prelude.{◌≡◌, ◌++◌, ◌<ℤ◌, ℕ, ℤ, List, [], ◌∷◌, codes, if◌then◌else◌}
use Rattle.std.specs.Ordering.{int_eq}
use Rattle.og_base.specs.Bytes.{Lacks}
use Rattle.og_base.specs.Calendar.{first_day, day_text}
use Rattle.og_base.specs.Ranges.{Range, IsRange}

-- the text of a lower end: -infinity for the first day, the day's text for each other
abbrev pub lower_text : ℤ → List ℕ
lower_text lo = if int_eq lo first_day then codes "-infinity" else day_text lo

-- the two ends in brackets, with a comma between them
abbrev pub range_text : Range → List ℕ
range_text r = 91 ∷ lower_text r.lo ++ (44 ∷ day_text r.hi ++ 41 ∷ [])

-- the ranges with a comma between each two
abbrev pub ranges_text : List Range → List ℕ
ranges_text [] = []
ranges_text (r ∷ []) = range_text r
ranges_text (r ∷ (q ∷ rs)) = range_text r ++ 44 ∷ ranges_text (q ∷ rs)

-- the one text of a set of days: its ranges in braces
abbrev pub set_text : List Range → List ℕ
set_text rs = 123 ∷ ranges_text rs ++ 125 ∷ []

-- two texts in brackets with a comma between them, the first without a comma and the second without a bracket
pub record IsEndsOf (text lower upper after : List ℕ) : Type 0 where
  pub joined : text ≡ 91 ∷ lower ++ (44 ∷ upper ++ 41 ∷ after)
  pub lower_plain : Lacks 44 lower
  pub upper_plain : Lacks 41 upper

-- the text begins with a range, which begins after the day, and that byte behind it
pub record IsRangeBefore (byte : ℕ) (low : ℤ) (text : List ℕ) (r : Range) (after : List ℕ) : Type 0 where
  pub range : IsRange r
  pub later : low <ℤ r.lo
  pub joined : text ≡ range_text r ++ byte ∷ after
