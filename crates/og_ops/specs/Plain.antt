-- What operators are on the rows of one day.
use Rattle.std.specs.Prelude.{Bool, List, map, if◌then◌else◌}
use Rattle.std.specs.List.{flat_map}

-- the image of a row of which the test holds, and each other row itself
abbrev pub replaced : {F : Type 0} → (F → Bool) → (F → F) → F → F
replaced p f x = if p x then f x else x

-- each row of the left glued to each of the right
abbrev pub products : {F : Type 0} → (F → F → F) → List F → List F → List F
products glued xs ys = flat_map (λ x. map (glued x) ys) xs
