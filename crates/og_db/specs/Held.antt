-- Names in the order of creation, each with what it is, its columns, and what is held under it: a relation, the rows of one day, or a number of rows.
use Rattle.std.specs.Prelude.{not, ℕ, List, [], ◌∷◌, Option, Some, None, map, filter, if◌then◌else◌}
use Rattle.std.specs.Option.{option_map}
use Rattle.std.specs.Str.{bytes_eq}
use Rattle.og_value.specs.declared.kind.What.{What}
use Rattle.og_value.specs.declared.schema.Column.{Column}
use Rattle.og_query.specs.Fits.{Known}

-- a name with what is held under it
pub record Held (V : Type 0) : Type 0 where
  pub name : List ℕ
  pub what : What
  pub columns : List Column
  pub rows : V

-- what is held under the name, where it is there
abbrev pub found : {V : Type 0} → List (Held V) → List ℕ → Option (Held V)
found [] name = None
found (h ∷ hs) name = if bytes_eq name h.name then Some h else found hs name

-- what a name is, and its columns
abbrev pub described : {V : Type 0} → Held V → What × List Column
described h = (h.what, h.columns)

-- what each name is, and its columns
abbrev pub known_of : {V : Type 0} → List (Held V) → Known
known_of hs name = option_map described (found hs name)

-- the rows of each name
abbrev pub rows_of : {V : Type 0} → List (Held V) → List ℕ → Option V
rows_of hs name = option_map (λ h. h.rows) (found hs name)

-- the same name, with rows that are made of its own
abbrev pub made_of : {V W : Type 0} → (V → W) → Held V → Held W
made_of f h = record { name = h.name; what = h.what; columns = h.columns; rows = f h.rows }

-- the same names, each with rows that are made of its own
abbrev pub all_made_of : {V W : Type 0} → (V → W) → List (Held V) → List (Held W)
all_made_of f hs = map (made_of f) hs

-- the same names, where that one has rows that are made of its own
abbrev pub changed_at : {V : Type 0} → List ℕ → (V → V) → List (Held V) → List (Held V)
changed_at name f hs = map (λ h. if bytes_eq name h.name then made_of f h else h) hs

-- the same names, where that one has these rows
abbrev pub put_at : {V : Type 0} → List ℕ → V → List (Held V) → List (Held V)
put_at name rows hs = changed_at name (λ _. rows) hs

-- the names without that one; the others keep their order
abbrev pub without : {V : Type 0} → List ℕ → List (Held V) → List (Held V)
without name hs = filter (λ h. not (bytes_eq name h.name)) hs
