-- Parts of the tables at the places of a core: of each its rows that combinations which pass tests can be made of.
use Rattle.std.specs.Prelude.{◌≡◌, ◌+◌, ◌++◌, ◌<◌, ℕ, suc, List, [], ◌∷◌, Option, Some, None, Contains, length, slice_get}
use Rattle.std.specs.Bool.{⊤}
use Rattle.std.specs.List.{All, sum_by}
use Rattle.std.specs.Option.{option_map}
use Rattle.og_query.specs.declared.query.From1.{From1}
use Rattle.og_exec.specs.Tables.{Relation, Relations}
use Rattle.og_view.specs.Placed.{beside}
use Rattle.og_reduce.specs.Sieves.{Test, sifted}
use Rattle.og_view.specs.declared.part.Part.{Part}
use Rattle.og_view.specs.declared.part.PartRows.{PartRows}
use Rattle.og_view.specs.declared.part.PartRows.TheVariants as part_rows

-- how many columns tables have together
abbrev pub width_of : List From1 → ℕ
width_of tables = sum_by (λ table. length table.schema) tables

-- a column of a joined row lies in a table, which stands behind others, as that column of it
abbrev pub LiesIn : List From1 → From1 → ℕ → ℕ → Type 0
LiesIn before table place n = (place ≡ width_of before + n) × (n < length table.schema)

-- a test asks of a column of a table what one of some tests asks of that column of the joined row
abbrev pub IsHanded : List Test → List From1 → From1 → Test → Type 0
IsHanded tests before table test = (place : ℕ) × Contains tests (place, test.1) × LiesIn before table place test.0

-- the rows of a part
abbrev pub rel_of : PartRows → Relation
rel_of (part_rows.All rel) = rel.now
rel_of (part_rows.Sifted rel) = rel

-- a part of a relation, if there is one, at the place of a table which stands behind others: its rows that pass tests that are handed down
abbrev pub IsPart : Option Relation → List Test → List From1 → From1 → Part → Type 0
IsPart rel tests before table part = (option_map rel_of part.rows ≡ option_map (sifted part.sieve) rel) × All (IsHanded tests before table) part.sieve

-- parts of the relations at the places of tables, which stand behind others
abbrev pub AreParts : (ℕ → Option Relation) → List Test → List From1 → List From1 → List Part → Type 0
AreParts rels tests before [] [] = ⊤
AreParts rels tests before (table ∷ tables) (part ∷ parts) = IsPart (rels 0) tests before table part × AreParts (λ k. rels (suc k)) tests (before ++ table ∷ []) tables parts
AreParts rels tests before _ _ = ⊥

-- what a part has, where it is there
abbrev pub part_at : Option Part → Option Relation
part_at None = None
part_at (Some part) = option_map rel_of part.rows

-- the relation of each name of a place
abbrev pub part_rels : List Part → Relations
part_rels parts [] = None
part_rels parts (letter ∷ name) = part_at (slice_get parts (length name))

-- the relation of a table
abbrev pub own : Relations → Option From1 → Option Relation
own named None = None
own named (Some table) = named table.name

-- the relation of the table at each place
abbrev pub own_at : Relations → List From1 → ℕ → Option Relation
own_at named tables k = own named (slice_get tables k)

-- the same, where one place has new rows alone
abbrev pub beside_at : Relations → Relation → ℕ → List From1 → ℕ → Option Relation
beside_at named new place tables k = beside named new place k (slice_get tables k)
