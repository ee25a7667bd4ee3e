-- Tables that are lent: what is known of them, and their relations.
use Rattle.std.proofs.Common.{◌≡◌, ℕ, List, Option, Some, None, refl, ap}
use Rattle.std.specs.Option.{option_map}
use Rattle.std.proofs.lemmas.Option.{same_Some}
use Rattle.og_value.specs.declared.kind.What.{What}
use Rattle.og_value.specs.declared.kind.What.TheVariants as what
use Rattle.og_value.specs.declared.schema.Column.{Column}
use Rattle.og_query.specs.Fits.{Known, columns_of, schemas_of, table_columns_of, tables_of}
use Rattle.og_exec.specs.Tables.{Relations}
use Rattle.og_db.specs.Database.{IsTableOf, Relation}
use Rattle.og_db.specs.Held.{Held, described, found, rows_of}
use Rattle.og_view.specs.Tables.{AreHeld}

-- what is known as a table of these columns
pub table_known : (o : Option (What × List Column)) (columns : List Column) → table_columns_of o ≡ Some columns → o ≡ Some (what.Table, columns)
table_known (Some (what.Table, others)) columns e = ap (λ cs. Some (what.Table, cs)) (same_Some others columns e)
table_known (Some (what.Kept, others)) columns e = cc
table_known (Some (what.Live, others)) columns e = cc
table_known None columns e = cc

-- a table has a relation
pub table_there : (tables : List (Held Relation)) (name : List ℕ) (columns : List Column) → IsTableOf columns tables name → (rel : Relation) × (rows_of tables name ≡ Some rel)
table_there tables name columns is = at (found tables name) refl is
  where
    at : (o : Option (Held Relation)) → found tables name ≡ o → option_map described o ≡ Some (what.Table, columns) → (rel : Relation) × (rows_of tables name ≡ Some rel)
    at (Some h) here is = (h.rows, ap (option_map (λ h. h.rows)) here)
    at None here is = cc is

-- tables have their relations where all names have
pub tables_held : (known : Known) (named : Relations) → AreHeld (schemas_of known) named → AreHeld (tables_of known) named
tables_held known named held = λ name columns is. held name columns (ap columns_of (table_known (known name) columns is))
