-- Fits: what a query and a statement promise of the names and kinds that they name.
use Rattle.std.specs.Prelude.{◌≡◌, ◌≤◌, ◌++◌, ℕ, true, List, [], ◌∷◌, Option, Some, None, map, length, slice_get, ⊤}
use Rattle.std.specs.List.{All, flat_map}
use Rattle.og_value.specs.Cells.{kind_of}
use Rattle.og_value.specs.declared.kind.Kind.{Kind}
use Rattle.og_value.specs.declared.kind.What.{What}
use Rattle.og_value.specs.declared.kind.What.TheVariants as what
use Rattle.og_value.specs.declared.schema.Column.{Column}
use Rattle.og_value.specs.declared.value.Value.{Value}
use Rattle.og_query.specs.Kinds.{kinds_of, kind_in, fits}
use Rattle.og_query.specs.declared.query.From1.{From1}
use Rattle.og_query.specs.declared.query.Semi.{Semi}
use Rattle.og_query.specs.declared.query.Core.{Core}
use Rattle.og_query.specs.declared.query.Rest.{Rest}
use Rattle.og_query.specs.declared.query.Query.{Query}
use Rattle.og_query.specs.declared.typed.Assign.{Assign}
use Rattle.og_query.specs.declared.typed.Typed.{Typed}
use Rattle.og_query.specs.declared.typed.Typed.TheVariants as t

-- the columns of each name that may be asked
abbrev pub Schemas : Type 0
Schemas = List ℕ → Option (List Column)

-- the kinds of a core's rows: those of its tables, one after the other
abbrev pub core_kinds : Core → List Kind
core_kinds core = flat_map (λ table. kinds_of table.schema) core.tables

-- a table has the columns of its name
abbrev pub IsAsNamed : Schemas → From1 → Type 0
IsAsNamed schemas table = schemas table.name ≡ Some table.schema

-- a semi's table is as named, and its condition fits the core's row followed by a row of the table
pub record IsFitSemi (schemas : Schemas) (kinds : List Kind) (semi : Semi) : Type 0 where
  pub table : IsAsNamed schemas semi.table
  pub cond : fits (kinds ++ kinds_of semi.table.schema) semi.cond ≡ true

-- a core has a table, each is as named, the conditions fit, and the items have the kinds of the schema
pub record IsFitCore (schemas : Schemas) (core : Core) : Type 0 where
  pub some : 1 ≤ length core.tables
  pub tables : All (IsAsNamed schemas) core.tables
  pub cond : fits (core_kinds core) core.cond ≡ true
  pub semis : All (IsFitSemi schemas (core_kinds core)) core.semis
  pub items : map (kind_in (core_kinds core)) core.items ≡ map (λ kind. Some kind) (kinds_of core.schema)

-- a further core fits, and has the kinds of the first
pub record IsFitRest (schemas : Schemas) (first : Core) (rest : Rest) : Type 0 where
  pub core : IsFitCore schemas rest.core
  pub kinds : kinds_of rest.core.schema ≡ kinds_of first.schema

-- each core of a query fits, and all have the kinds of the first
pub record IsFitQuery (schemas : Schemas) (query : Query) : Type 0 where
  pub first : IsFitCore schemas query.first
  pub rest : All (IsFitRest schemas query.first) query.rest

-- a row has one value of the kind of each column, in order
abbrev pub IsFitRow : List Column → List Value → Type 0
IsFitRow columns row = map kind_of row ≡ kinds_of columns

-- an expression of the column's kind is assigned to it
abbrev pub IsFitAssign : List Column → Assign → Type 0
IsFitAssign columns set = (kind : Kind) × (slice_get (kinds_of columns) set.column ≡ Some kind) × (kind_in (kinds_of columns) set.expr ≡ Some kind)

-- what each name is, and its columns
abbrev pub Known : Type 0
Known = List ℕ → Option (What × List Column)

-- the columns of what is known of a name
abbrev pub columns_of : Option (What × List Column) → Option (List Column)
columns_of (Some known) = Some known.1
columns_of None = None

-- the columns of a table, and nothing of another name
abbrev pub table_columns_of : Option (What × List Column) → Option (List Column)
table_columns_of (Some (what.Table, columns)) = Some columns
table_columns_of _ = None

-- the columns of each name
abbrev pub schemas_of : Known → Schemas
schemas_of known name = columns_of (known name)

-- the columns of each table, and of no other name
abbrev pub tables_of : Known → Schemas
tables_of known name = table_columns_of (known name)

-- the name is new
abbrev pub IsNew : Known → List ℕ → Type 0
IsNew known name = known name ≡ None

-- the name is known
abbrev pub IsNamed : Known → List ℕ → Type 0
IsNamed known name = (columns : List Column) × (schemas_of known name ≡ Some columns)

-- each place is another
abbrev pub AreApart : List ℕ → Type 0
AreApart [] = ⊤
AreApart (place ∷ places) = All (λ other. ¬ (other ≡ place)) places × AreApart places

-- what a statement says fits what is known
abbrev pub IsFit : Known → Typed → Type 0
IsFit known (t.Create name schema) = IsNew known name
IsFit known (t.Insert name rows) = (columns : List Column) × (tables_of known name ≡ Some columns) × All (IsFitRow columns) rows
IsFit known (t.Delete name cond) = (columns : List Column) × (tables_of known name ≡ Some columns) × (fits (kinds_of columns) cond ≡ true)
IsFit known (t.Update name sets cond) =
    (columns : List Column) × (tables_of known name ≡ Some columns) × All (IsFitAssign columns) sets
    × AreApart (map (λ set. set.column) sets) × (fits (kinds_of columns) cond ≡ true)
IsFit known (t.Drop name) = IsNamed known name
IsFit known t.Tables = ⊤
IsFit known (t.Keep name query) = IsNew known name × IsFitQuery (schemas_of known) query
IsFit known (t.PrintName name day) = IsNamed known name
IsFit known (t.PrintQuery query day) = IsFitQuery (schemas_of known) query
IsFit known (t.Save name file) = IsNamed known name
IsFit known (t.OpenFile name file) = IsNew known name
IsFit known (t.ImportFile name file) = (columns : List Column) × (tables_of known name ≡ Some columns)
IsFit known (t.Explain query) = IsFitQuery (schemas_of known) query
IsFit known (t.Valid name day) = IsNamed known name
IsFit known (t.Live name query) = IsNew known name × IsFitQuery (tables_of known) query
