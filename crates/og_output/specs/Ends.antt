-- The ends of lists.
use Rattle.std.specs.Prelude.{◌-◌, List, Option, length, slice_get}

-- the last of the rows, where there is one
abbrev pub end_of : {F : Type 0} → List F → Option F
end_of rows = slice_get rows (length rows - 1)
