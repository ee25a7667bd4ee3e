-- Rows that each become others by itself.
use Rattle.std.specs.Prelude.{◌≡◌, ◌*◌, ◌≤◌, ℕ, ℤ, List, [], ◌∷◌, length}
use Rattle.og_base.specs.Calendar.{IsRefDay}
use Rattle.og_base.specs.Ranges.{Range}
use Rattle.og_rel.specs.declared.pair.Pair.{Pair}
use Rattle.og_rel.specs.Pairs.{present_of_pairs}
use Rattle.og_rel.specs.Relations.{present}

-- on each day the rows are what those of the pairs become, and they are at most so many for each pair
abbrev pub Becomes : {R F : Type 0} → (R → ℤ → F) → (ℤ → List F → List F) → ℕ → List (Pair R) → List (R × List Range) → Type 0
Becomes at becomes most pairs rel = ((d : ℤ) → IsRefDay d → present at rel d ≡ becomes d (present_of_pairs at pairs d)) × (length rel ≤ most * length pairs)

-- one relation is made of the pairs, of what their rows become
abbrev pub IsMadeOf : {R F : Type 0} → (R → ℤ → F) → (ℤ → List F → List F) → ℕ → List (Pair R) → List (List (R × List Range)) → Type 0
IsMadeOf {R} at becomes most pairs made = (rel : List (R × List Range)) × Becomes at becomes most pairs rel × (made ≡ rel ∷ [])
