-- What a piece makes of the items of a list.
use Rattle.std.specs.Prelude.{◌≡◌, List, [], ◌∷◌, ◌++◌}

-- for each item one list that is allowed for it, these lists one after the other
abbrev pub MadeOfEach : {T X : Type 0} → (T → List X → Type 0) → List T → List X → Type 0
MadeOfEach gives [] made = made ≡ []
MadeOfEach {T} {X} gives (t ∷ ts) made = (first : List X) × (rest : List X) × gives t first × MadeOfEach gives ts rest × (made ≡ first ++ rest)

-- for each item at most one list is allowed
abbrev pub AllowsOne : {T X : Type 0} → (T → List X → Type 0) → Type 0
AllowsOne {T} {X} gives = (t : T) (a b : List X) → gives t a → gives t b → a ≡ b
