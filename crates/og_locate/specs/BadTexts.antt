-- The first text of a statement that is none of the kind that is asked for.
use Rattle.std.specs.Prelude.{◌≡◌, ◌⊎◌, ◌+◌, true, false, ℕ, ℤ, Bool, List, [], ◌∷◌, Option, Some, None}
use Rattle.og_base.specs.Calendar.{IsDayText, IsRefDayText}
use Rattle.og_time.specs.Point.{Point, IsPointText}
use Rattle.og_time.specs.Period.{Period, IsPeriodText}
use Rattle.og_syntax.specs.declared.lexeme.Sort.{Sort}
use Rattle.og_syntax.specs.declared.lexeme.Sort.TheVariants as k
use Rattle.og_syntax.specs.declared.lexeme.Lexeme.{Lexeme}
use Rattle.og_syntax.specs.Lexemes.{same_sort}
use Rattle.og_syntax.specs.Spans.{IsContent}

-- the bytes are no text of a day
abbrev pub IsNoDay : List ℕ → Type 0
IsNoDay z = (n : ℤ) → ¬ IsDayText z n

-- nor of a reference day
abbrev pub IsNoRefDay : List ℕ → Type 0
IsNoRefDay z = (n : ℤ) → ¬ IsRefDayText z n

-- whether a reference day is asked for, or any
abbrev pub IsNoDayAsked : Bool → List ℕ → Type 0
IsNoDayAsked true z = IsNoRefDay z
IsNoDayAsked false z = IsNoDay z

-- behind DATE a day is asked for, and a reference day behind OF DATE
abbrev pub IsNoDayBehind : Sort → List ℕ → Type 0
IsNoDayBehind earlier z = IsNoDayAsked (same_sort earlier k.Of) z

-- the bytes are no text of the kind that two lexemes before them ask for
abbrev pub IsNoneBehind : Sort → Sort → List ℕ → Type 0
IsNoneBehind earlier k.Date z = IsNoDayBehind earlier z
IsNoneBehind earlier k.Ongoing z = (p : Point) → ¬ IsPointText z p
IsNoneBehind earlier k.Period z = (i : Period) → ¬ IsPeriodText z i
IsNoneBehind earlier _ z = ⊥

-- the lexeme is a text, and what stands between its quotes is none of the kind that the two before it ask for
abbrev pub IsBad : List ℕ → Sort → Sort → Lexeme → Type 0
IsBad script earlier word t = (same_sort t.sort k.Quoted ≡ true) × (z : List ℕ) × IsContent script t z × IsNoneBehind earlier word z

-- the place of the first such text, where the first lexeme has that place and stands behind those sorts
abbrev pub IsFirstBad : List ℕ → Sort → Sort → ℕ → List Lexeme → Option ℕ → Type 0
IsFirstBad script earlier word at [] found = found ≡ None
IsFirstBad script earlier word at (t ∷ ts) found =
    (IsBad script earlier word t × (found ≡ Some at)) ⊎ ((IsBad script earlier word t → ⊥) × IsFirstBad script word t.sort (at + 1) ts found)
