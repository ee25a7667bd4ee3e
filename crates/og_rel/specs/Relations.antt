-- Relations: rows with the ranges of their days, and what they are at a day.
use Rattle.std.specs.Prelude.{◌≢◌, ◌++◌, not, ℤ, Bool, List, [], ◌∷◌, filter, if◌then◌else◌}
use Rattle.std.specs.declared.cmp.Ordering.{Ordering}
use Rattle.og_base.specs.Ranges.{Range, IsNormal, holds_day}
use Rattle.og_base.specs.Set.{set_of}

-- the days of a row: there is one, and their ranges are in the normal form
abbrev pub HasDays : List Range → Type 0
HasDays days = (days ≢ []) × IsNormal days

-- the rows that are present on the day, at the day: one of their ranges holds it
abbrev pub present : {R F : Type 0} → (R → ℤ → F) → List (R × List Range) → ℤ → List F
present at [] d = []
present at (p ∷ ps) d = if holds_day p.1 d then at p.0 d ∷ present at ps d else present at ps d

-- a relation at a day: the set of its present rows
abbrev pub relation_at : {R F : Type 0} → (F → F → Ordering) → (R → ℤ → F) → List (R × List Range) → ℤ → List F
relation_at cmp at rel d = set_of cmp (present at rel d)

-- a row with its days, or nothing where there are none
abbrev pub stored : {R : Type 0} → R → List Range → List (R × List Range)
stored row [] = []
stored row (r ∷ rs) = (row, r ∷ rs) ∷ []

-- the rows that do not pass a test, with their days
abbrev pub others : {R : Type 0} → (R → Bool) → List (R × List Range) → List (R × List Range)
others passes rel = filter (λ p. not (passes p.0)) rel

-- the rows that pass a test, with their days
abbrev pub passing : {R : Type 0} → (R → Bool) → List (R × List Range) → List (R × List Range)
passing passes rel = filter (λ p. passes p.0) rel

-- a relation in which others stand in the place of the rows that pass a test
abbrev pub instead : {R : Type 0} → (R → Bool) → List (R × List Range) → List (R × List Range) → List (R × List Range)
instead passes more rel = others passes rel ++ more
