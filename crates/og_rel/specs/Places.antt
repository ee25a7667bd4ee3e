-- Places of the elements of a list: those at which a test holds, places that rise, and the elements at none of them.
use Rattle.std.specs.Prelude.{◌==◌, ◌<◌, ◌≤◌, ⊤, ℕ, suc, Bool, List, [], ◌∷◌, if◌then◌else◌}

-- the places at which a test holds, where the first element has that place
abbrev pub places_from : {X : Type 0} → ℕ → (X → Bool) → List X → List ℕ
places_from i holds [] = []
places_from i holds (x ∷ xs) = if holds x then i ∷ places_from (suc i) holds xs else places_from (suc i) holds xs

-- the places at which a test holds
abbrev pub places : {X : Type 0} → (X → Bool) → List X → List ℕ
places holds xs = places_from 0 holds xs

-- places that rise, from one on, before an end
abbrev pub AreRising : ℕ → List ℕ → ℕ → Type 0
AreRising from [] end = ⊤
AreRising from (k ∷ at) end = (from ≤ k) × (k < end) × AreRising (suc k) at end

-- places of a list of that many elements
abbrev pub ArePlaces : List ℕ → ℕ → Type 0
ArePlaces at len = AreRising 0 at len

-- the elements but those at places that rise, where the first element has that place
abbrev pub others_from : {X : Type 0} → ℕ → List ℕ → List X → List X
others_from i at [] = []
others_from i [] (x ∷ xs) = x ∷ xs
others_from i (k ∷ at) (x ∷ xs) = if i == k then others_from (suc i) at xs else x ∷ others_from (suc i) (k ∷ at) xs

-- the elements but those at places that rise
abbrev pub others_at : {X : Type 0} → List ℕ → List X → List X
others_at at xs = others_from 0 at xs
