-- What the answer of a query takes for granted of the names that there are.
use Rattle.std.specs.Prelude.{◌≡◌, ℕ, List, Some}
use Rattle.og_value.specs.declared.schema.Column.{Column}
use Rattle.og_query.specs.Fits.{Known, schemas_of}
use Rattle.og_exec.specs.Tables.{Relations, IsThere}

-- each name that is known has a relation, and its rows fit its columns
abbrev pub AreHeld : Known → Relations → Type 0
AreHeld known named = (name : List ℕ) (columns : List Column) → schemas_of known name ≡ Some columns → IsThere named (name, columns)
