-- Combinations of the rows of several tables.
use Rattle.std.specs.Prelude.{List, [], ◌∷◌, ◌++◌, map}
use Rattle.std.specs.List.{flat_map}

-- all combinations of one row from each list, each joined to one row
abbrev pub combinations : {V : Type 0} → List (List (List V)) → List (List V)
combinations [] = [] ∷ []
combinations (rows ∷ more) = flat_map (λ row. map (λ rest. row ++ rest) (combinations more)) rows
