-- The pairs of a relation as the code holds them.
use Rattle.std.specs.Prelude.{ℤ, Bool, true, false, List, [], ◌∷◌, map}
use Rattle.og_base.specs.Ranges.{Range}
use Rattle.og_rel.specs.declared.pair.Pair.{Pair}
use Rattle.og_rel.specs.Relations.{present}

-- the rows of the pairs that are present on the day, at the day
abbrev pub present_of_pairs : {R F : Type 0} → (R → ℤ → F) → List (Pair R) → ℤ → List F
present_of_pairs at pairs d = present at (map (λ p. (p.row, p.days)) pairs) d

-- whether days have a range
abbrev pub has_day : List Range → Bool
has_day [] = false
has_day (r ∷ rs) = true
