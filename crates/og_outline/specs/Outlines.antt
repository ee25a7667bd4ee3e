-- Outlines: names and saved files without rows, and what statements make of them.
use Rattle.std.specs.Prelude.{◌≡◌, ◌++◌, ◌&&◌, not, ℕ, List, [], ◌∷◌, Option, Some, None, String, string_bytes, map, filter, if◌then◌else◌}
use Rattle.std.specs.declared.alloc.Global.{Global}
use Rattle.std.specs.List.{IsDistinct}
use Rattle.std.specs.Map.{lookup}
use Rattle.std.specs.Option.{option_map}
use Rattle.std.specs.Str.{bytes_eq}
use Rattle.indexmap.specs.IndexMap.{insert_entry}
use Rattle.og_value.specs.declared.kind.What.{What}
use Rattle.og_value.specs.declared.kind.What.TheVariants as what
use Rattle.og_value.specs.declared.schema.Column.{Column}
use Rattle.og_query.specs.declared.query.Query.{Query}
use Rattle.og_query.specs.declared.typed.Typed.{Typed}
use Rattle.og_query.specs.declared.typed.Typed.TheVariants as t
use Rattle.og_db.specs.Effects.{Effect, sizes_after}
use Rattle.og_db.specs.Held.{Held, all_made_of, found, without}
use Rattle.og_db.specs.Live.{Live}
use Rattle.og_db.specs.Runs.{live_of}
use Rattle.og_outline.specs.Known.{is_over, known_held}
use Rattle.og_outline.specs.declared.known.Known.{Known}
use Rattle.og_outline.specs.declared.outline.SavedFile.{SavedFile}

-- names, each with its query where it is a live result, and the files that were saved
pub record Outlined : Type 0 where
  pub names : List (Held (Option Query))
  pub files : List (List ℕ × SavedFile)

-- a saved file under its name, as contracts see it
abbrev pub file_of : String Global × SavedFile → List ℕ × SavedFile
file_of e = (string_bytes e.0, e.1)

-- what the code holds, as contracts see it
abbrev pub outlined_of : List (List ℕ × Known) → List (String Global × SavedFile) → Outlined
outlined_of names files = record { names = map known_held names; files = map file_of files }

-- one name more, as the last
abbrev pub with_name : List ℕ → What → List Column → Option Query → Outlined → Outlined
with_name name kind columns query o = record { names = o.names ++ record { name = name; what = kind; columns = columns; rows = query } ∷ []; files = o.files }

-- a name where another is taken out: a live result over it is a kept one
abbrev pub ended_without : List ℕ → Held (Option Query) → Held (Option Query)
ended_without name h = if is_over name h.rows then record { name = h.name; what = what.Kept; columns = h.columns; rows = None } else h

-- DROP of a name
abbrev pub outlined_drop : List ℕ → Outlined → Outlined
outlined_drop name o = record { names = map (ended_without name) (without name o.names); files = o.files }

-- the live results other than the name that end with its DROP, in order
abbrev pub ending_names : List ℕ → List (Held (Option Query)) → List (List ℕ)
ending_names name hs = map (λ h. h.name) (filter (λ h. not (bytes_eq name h.name) && is_over name h.rows) hs)

-- OPEN, under the name, of a file with these columns
abbrev pub outlined_open : List ℕ → List Column → Outlined → Outlined
outlined_open name columns o = with_name name what.Kept columns None o

-- SAVE of a name with these columns to the file, by the statement with that number
abbrev pub outlined_save : ℕ → List Column → List ℕ → Outlined → Outlined
outlined_save number columns file o = record { names = o.names; files = insert_entry bytes_eq o.files file (record { number = number; schema = columns }) }

-- a statement that acts on names alone
abbrev pub outlined_after : Outlined → Typed → Outlined
outlined_after o (t.Create name columns) = with_name name what.Table columns None o
outlined_after o (t.Drop name) = outlined_drop name o
outlined_after o (t.Keep name query) = with_name name what.Kept query.first.schema None o
outlined_after o (t.Live name query) = with_name name what.Live query.first.schema (Some query) o
outlined_after o _ = o

-- no two names are the same
abbrev pub names_differ : Outlined → Type 0
names_differ o = IsDistinct bytes_eq (map (λ h. h.name) o.names)

-- a live result, where the name has a query
abbrev pub live_at : List ℕ → Option Query → List Live
live_at name None = []
live_at name (Some query) = record { name = name; query = query } ∷ []

-- the live results among names
abbrev pub lives_in : List (Held (Option Query)) → List Live
lives_in [] = []
lives_in (h ∷ hs) = live_at h.name h.rows ++ lives_in hs

-- names without what is held under them
abbrev pub bare : {V : Type 0} → List (Held V) → List (Held (Unit {0}))
bare hs = all_made_of (λ _. tt) hs

-- the columns of a saved file, here and where rows are held
abbrev pub saved_columns : List (List ℕ × SavedFile) → List ℕ → Option (List Column)
saved_columns files file = option_map (λ s. s.schema) (lookup (bytes_eq file) files)

abbrev pub held_columns : {V : Type 0} → List (Held V) → List ℕ → Option (List Column)
held_columns files file = option_map (λ h. h.columns) (found files file)

-- the outline of statements: the names that they leave, their live results and the columns of the files that they saved
pub record IsOutlineOf (o : Outlined) (effects : List Effect) : Type 0 where
  pub names : bare o.names ≡ bare (sizes_after effects).names
  pub live : lives_in o.names ≡ live_of effects
  pub files : (file : List ℕ) → saved_columns o.files file ≡ held_columns (sizes_after effects).files file
