-- Tables that are lent to a view.
use Rattle.std.specs.Prelude.{◌≡◌, ℕ, List, Some}
use Rattle.og_value.specs.declared.schema.Column.{Column}
use Rattle.og_query.specs.Fits.{Schemas}
use Rattle.og_exec.specs.Tables.{Relations, IsThere}
use Rattle.og_db.specs.Database.{Relation, HaveKinds, IsTableOf}
use Rattle.og_db.specs.Held.{Held}

-- each name that has columns has a relation, and its rows fit them
abbrev pub AreHeld : Schemas → Relations → Type 0
AreHeld schemas named = (name : List ℕ) (columns : List Column) → schemas name ≡ Some columns → IsThere named (name, columns)

-- so it is with these names, and new rows fit the columns of that one
abbrev pub HasNew : Schemas → Relations → List ℕ → Relation → Type 0
HasNew schemas named name new = AreHeld schemas named × (columns : List Column) × (schemas name ≡ Some columns) × HaveKinds columns new

-- that name is a table whose columns the rows of the relation fit
abbrev pub IsPut : List (Held Relation) → List ℕ → Relation → Type 0
IsPut tables name rel = (columns : List Column) × IsTableOf columns tables name × HaveKinds columns rel
