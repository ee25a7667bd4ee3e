-- Lists of names and of their rows, as what each name has.
use Rattle.std.specs.Prelude.{ℕ, List, [], ◌∷◌, map, if◌then◌else◌, Vec}
use Rattle.std.specs.Str.{bytes_eq}
use Rattle.std.specs.declared.alloc.Global.{Global}
use Rattle.og_query.specs.Queries.{Fixed, Named}

-- the rows that stand at the place of the name, and none where it is not listed
abbrev pub rows_of : List (List ℕ) → List (List Fixed) → Named
rows_of (other ∷ names) (rows ∷ tables) name = if bytes_eq other name then rows else rows_of names tables name
rows_of names tables name = []

-- the rows of each table
abbrev pub tables_in : List (Vec Fixed Global) → List (List Fixed)
tables_in tables = map (λ table. table.items) tables
