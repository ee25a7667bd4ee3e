-- Cores under names by place, so that each place of FROM can have a relation of its own, and what such places have where a table gets new rows.
use Rattle.std.specs.Prelude.{◌==◌, ◌++◌, ℕ, zero, suc, ℤ, nat_le, Bool, List, [], ◌∷◌, Option, Some, None, filter, length, map, slice_get, if◌then◌else◌}
use Rattle.std.specs.List.{flat_map}
use Rattle.std.specs.Str.{bytes_eq}
use Rattle.og_base.specs.Calendar.{IsRefDay}
use Rattle.og_value.specs.declared.schema.Column.{Column}
use Rattle.og_query.specs.Fits.{Schemas}
use Rattle.og_query.specs.Queries.{Fixed}
use Rattle.og_query.specs.declared.query.Core.{Core}
use Rattle.og_query.specs.declared.query.From1.{From1}
use Rattle.og_query.specs.declared.query.Query.{Query}
use Rattle.og_exec.specs.Tables.{Relations, rows_at, rows_on}
use Rattle.og_db.specs.Database.{Relation}
use Rattle.og_db.specs.Deltas.{IsAlike}
use Rattle.og_view.specs.Rows.{rows_over, turns}

-- so many letters p
abbrev pub letters : ℕ → List ℕ
letters zero = []
letters (suc k) = 112 ∷ letters k

-- the table under the name of a place: one letter more than there are places before it
abbrev pub placed : ℕ → From1 → From1
placed k table = record { name = 112 ∷ letters k; schema = table.schema }

-- the tables under the names of their places, of which the first has that many before it
abbrev pub placed_from : ℕ → List From1 → List From1
placed_from k [] = []
placed_from k (table ∷ tables) = placed k table ∷ placed_from (suc k) tables

-- the core over the names of its places
abbrev pub placed_core : Core → Core
placed_core core = record { tables = placed_from 0 core.tables; cond = core.cond; semis = []; items = core.items; schema = core.schema }

-- the query of that core alone
abbrev pub placed_query : Core → Query
placed_query core = record { first = placed_core core; rest = [] }

-- the cores of a query
abbrev pub cores_of : Query → List Core
cores_of query = query.first ∷ map (λ rest. rest.core) query.rest

-- the columns of the table at a place
abbrev pub columns_at : Option From1 → Option (List Column)
columns_at (Some table) = Some table.schema
columns_at None = None

-- the columns of each name of a place
abbrev pub place_schemas : List From1 → Schemas
place_schemas tables [] = None
place_schemas tables (letter ∷ name) = columns_at (slice_get tables (length name))

-- what a table has at a place, where one place has the new rows alone, and the others have the tables
abbrev pub beside : Relations → Relation → ℕ → ℕ → Option From1 → Option Relation
beside named new place k None = None
beside named new place k (Some table) = if k == place then Some new else named table.name

-- the rows that a name gets, where one name gets new rows
abbrev pub gets : List ℕ → Relation → List ℕ → Relation
gets name new other = if bytes_eq name other then new else []

-- on each day each name has after a change what it had before, and what it gets
abbrev pub AreGrown : Relations → Relations → List ℕ → Relation → Type 0
AreGrown after before name new = (d : ℤ) → IsRefDay d → (other : List ℕ) → IsAlike (rows_at after d other) (rows_at before d other ++ rows_on (gets name new other) d)

-- the lists of rows of one day that the places of a core have, where place by place a name has the new rows alone
abbrev pub more_lists : ℤ → Relations → List ℕ → Relation → Core → List (List (List Fixed))
more_lists d named name new core = turns (map (λ table. rows_at named d table.name) core.tables) (map (λ table. rows_on (gets name new table.name) d) core.tables)

-- the rows that the core has by the new rows of a name, over tables that have them
abbrev pub more_rows : ℤ → Relations → List ℕ → Relation → Core → List Fixed
more_rows d named name new core = flat_map (rows_over d core) (more_lists d named name new core)

-- whether the core has the name at one place at most
abbrev pub has_once : List ℕ → Core → Bool
has_once name core = nat_le (length (filter (λ table. bytes_eq name table.name) core.tables)) 1
