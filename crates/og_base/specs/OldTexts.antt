-- The texts of days and of sets of days in the earlier calendar, whose first day was 0001-01-01. Its numbers are written out.
use Rattle.std.specs.Prelude.{◌≡◌, ◌≢◌, ◌⊎◌, ◌≤◌, ◌<ℤ◌, ◌++◌, ℕ, ℤ, pos, neg_ℤ, List, [], ◌∷◌, codes, if◌then◌else◌}
use Rattle.std.specs.Ordering.{int_eq}
use Rattle.jiff_core.specs.Calendar.{IsBetween, IsCivilDate, days_from_civil}
use Rattle.og_base.specs.Calendar.{before_all}
use Rattle.og_base.specs.Ranges.{Range}
use Rattle.og_base.specs.TextForms.{two_digits, four_digits}

-- 0001-01-01, counted from 1970-01-01
abbrev pub old_first : ℤ
old_first = neg_ℤ (pos 719_162)

-- 9999-12-31
abbrev pub old_last : ℤ
old_last = pos 2_932_896

-- -infinity
abbrev pub old_before : ℤ
old_before = neg_ℤ (pos 719_163)

-- infinity
abbrev pub old_after : ℤ
old_after = pos 2_932_897

-- an extended day of the earlier calendar: -infinity, infinity, or a day between
abbrev pub IsOldDay : ℤ → Type 0
IsOldDay n = IsBetween old_before old_after n

-- four digits, a dash, two digits, a dash, two digits, which name a civil day from 0001-01-01 to 9999-12-31
abbrev pub IsOldRefDayText : List ℕ → ℤ → Type 0
IsOldRefDayText text n =
    (y : ℕ) × (m : ℕ) × (d : ℕ) × (1 ≤ y) × IsCivilDate (pos y) m d
    × (text ≡ four_digits y ++ 45 ∷ two_digits m ++ 45 ∷ two_digits d) × (n ≡ days_from_civil (pos y) m d)

-- a day text of the earlier calendar, and the number that its day had there
abbrev pub IsOldDayText : List ℕ → ℤ → Type 0
IsOldDayText text n =
    ((text ≡ codes "-infinity") × (n ≡ old_before))
    ⊎ (((text ≡ codes "infinity") × (n ≡ old_after)) ⊎ IsOldRefDayText text n)

-- the number that the day has now: that of -infinity is another, each other is the same
abbrev pub now_number : ℤ → ℤ
now_number n = if int_eq n old_before then before_all else n

-- the text of a lower end: -infinity for the first day of the earlier calendar, the day's text for each other
abbrev pub IsOldLowerText : List ℕ → ℤ → Type 0
IsOldLowerText text n =
    ((text ≡ codes "-infinity") × (n ≡ old_first))
    ⊎ (IsOldRefDayText text n × (n ≢ old_first))

-- the text of an upper end: infinity, or the day's text
abbrev pub IsOldUpperText : List ℕ → ℤ → Type 0
IsOldUpperText text n =
    ((text ≡ codes "infinity") × (n ≡ old_after))
    ⊎ IsOldRefDayText text n

-- the two ends in brackets, with a comma between them, and the lower before the upper
pub record IsOldRangeText (text : List ℕ) (r : Range) : Type 0 where
  pub lower : List ℕ
  pub upper : List ℕ
  pub lo : IsOldLowerText lower r.lo
  pub hi : IsOldUpperText upper r.hi
  pub some : r.lo <ℤ r.hi
  pub joined : text ≡ 91 ∷ lower ++ (44 ∷ upper ++ 41 ∷ [])

-- ranges that rise and do not touch, with a comma between each two
abbrev pub IsOldRangesText : List ℕ → List Range → Type 0
IsOldRangesText text [] = text ≡ []
IsOldRangesText text (r ∷ []) = IsOldRangeText text r
IsOldRangesText text (r ∷ (q ∷ rs)) =
    (first : List ℕ) × (rest : List ℕ) × IsOldRangeText first r × (r.hi <ℤ q.lo) × IsOldRangesText rest (q ∷ rs)
    × (text ≡ first ++ 44 ∷ rest)

-- a set text of the earlier calendar, and the ranges of its set: the ranges in braces
abbrev pub IsOldSetText : List ℕ → List Range → Type 0
IsOldSetText text s = (ranges : List ℕ) × IsOldRangesText ranges s × (text ≡ 123 ∷ ranges ++ 125 ∷ [])
