-- Which names a query may ask. Beside private functions alone.
use Rattle.std.specs.Prelude.{ℕ, List, Option}
use Rattle.og_value.specs.declared.schema.Column.{Column}
use Rattle.og_query.specs.Fits.{Known, Schemas, schemas_of, tables_of}
use Rattle.og_check.specs.declared.names.Names.{Names}
use Rattle.og_check.specs.declared.names.Names.TheVariants as n
use Rattle.og_check.specs.Steps.{Checked, ◌>>◌, pure}
use Rattle.og_check.specs.Cores.{known_columns}
use Rattle.og_check.specs.Statements.{new_name}

-- the columns of each name that may be asked
abbrev pub schemas_in : Names → Known → Schemas
schemas_in n.All known = schemas_of known
schemas_in n.Tables known = tables_of known

-- a name that may be asked
abbrev pub known_name : List ℕ → Option (List Column) → Checked (List ℕ)
known_name name columns = do known_columns name columns; pure name

-- a name that is not known
abbrev pub fresh_name : Known → List ℕ → Checked (List ℕ)
fresh_name known name = do new_name known name; pure name
