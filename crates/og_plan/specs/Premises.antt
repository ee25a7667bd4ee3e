-- What is taken for granted of a query and of the rows of its tables, so that its plan means the query.
use Rattle.std.specs.Prelude.{◌≡◌, ◌<◌, ◌++◌, ℕ, List, map, length}
use Rattle.std.specs.List.{All, flat_map}
use Rattle.og_value.specs.declared.schema.Column.{Column}
use Rattle.og_query.specs.Fits.{core_kinds}
use Rattle.og_query.specs.Kinds.{kinds_of, fixed_kind}
use Rattle.og_query.specs.Queries.{Fixed, Named}
use Rattle.og_query.specs.declared.query.Core.{Core}
use Rattle.og_query.specs.declared.query.From1.{From1}
use Rattle.og_query.specs.declared.query.Query.{Query}
use Rattle.og_plan.specs.Parts.{places_of}

-- each column of the core's condition is one of its row
abbrev pub IsInRange : Core → Type 0
IsInRange core = All (λ place. place < length (core_kinds core)) (places_of core.cond)

-- each column of the conditions of the cores is one of their rows
abbrev pub AreInRange : Query → Type 0
AreInRange query = IsInRange query.first × All (λ rest. IsInRange rest.core) query.rest

-- each row of one day has a value of the kind of each column, in order
abbrev pub FitRows : List Column → List Fixed → Type 0
FitRows columns rows = All (λ row. map fixed_kind row ≡ kinds_of columns) rows

-- the rows of each table of a core fit its columns
abbrev pub HaveFitRows : Named → Core → Type 0
HaveFitRows rows core = All (λ table. FitRows table.schema (rows table.name)) core.tables

-- the rows of each table of a query fit its columns
abbrev pub AllHaveFitRows : Named → Query → Type 0
AllHaveFitRows rows query = HaveFitRows rows query.first × All (λ rest. HaveFitRows rows rest.core) query.rest

-- the name of a table and its columns
abbrev pub named_columns : From1 → List ℕ × List Column
named_columns table = (table.name, table.schema)

-- the tables of a core: those of FROM and those of its semis
abbrev pub core_tables : Core → List (List ℕ × List Column)
core_tables core = map named_columns core.tables ++ map (λ semi. named_columns semi.table) core.semis

-- the tables of a query
abbrev pub query_tables : Query → List (List ℕ × List Column)
query_tables query = core_tables query.first ++ flat_map (λ rest. core_tables rest.core) query.rest
