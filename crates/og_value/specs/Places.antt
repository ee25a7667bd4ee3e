-- Where the parts of a list lie.
use Rattle.std.specs.Prelude.{List, [], ◌∷◌, ⊤}
use Rattle.og_value.specs.declared.listed.Places.{Places}
use Rattle.og_value.specs.declared.listed.Places.TheVariants.{Empty, One, Two, Many}

-- the parts
abbrev pub parts_in : {T : Type 0} → Places T → List T
parts_in Empty = []
parts_in (One part) = part ∷ []
parts_in (Two parts) = parts
parts_in (Many parts) = parts.items

-- they lie in the value itself
abbrev pub IsFew : {T : Type 0} → Places T → Type 0
IsFew (Many parts) = ⊥
IsFew _ = ⊤
