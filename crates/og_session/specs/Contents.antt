-- What files hold, and what a statement does after those before it, or why it is refused.
use Rattle.std.specs.Prelude.{◌≢◌, ⊤, ℕ, List, [], Option, Some, None, Result, Ok, Err}
use Rattle.og_value.specs.declared.schema.Column.{Column}
use Rattle.og_value.specs.declared.value.Value.{Value}
use Rattle.og_query.specs.Fits.{schemas_of}
use Rattle.og_query.specs.declared.typed.Typed.{Typed}
use Rattle.og_query.specs.declared.typed.Typed.TheVariants as t
use Rattle.og_syntax.specs.declared.tree.Stmt.{Stmt}
use Rattle.og_check.specs.Statements.{checked}
use Rattle.og_check.specs.Steps.{Checked}
use Rattle.og_db.specs.Effects.{Effect, on_names, saved, reopened, opened, imported, sizes_after}
use Rattle.og_db.specs.Held.{Held, found}
use Rattle.og_db.specs.Runs.{known_after}
use Rattle.og_db.specs.Statements.{or_else}
use Rattle.og_file.specs.SavedFile.{Pair, IsSavedFault, IsSavedFile}
use Rattle.og_file.specs.TableFile.{IsTableFault, IsTableFile}
use Rattle.og_file.specs.declared.refusal.FileRefusal.{FileRefusal}
use Rattle.og_file.specs.declared.refusal.FileRefusal.TheVariants as refused
use Rattle.og_io.specs.Folders.{Folder}
use Rattle.og_faults.specs.Refusals.{FileFault, no_file, in_file, Refused, by_checks, by_file}

-- ---- what files hold

-- what bytes hold: as a saved file the columns and the rows on their days, and as a table file for columns the rows, each or the fault
pub record Content : Type 0 where
  pub saved : Result (List Column × List Pair) FileRefusal
  pub rows : List Column → Result (List (List Value)) FileRefusal

-- the bytes are this saved file, or have this fault as one
abbrev pub IsSavedContent : List ℕ → Result (List Column × List Pair) FileRefusal → Type 0
IsSavedContent bytes (Ok table) = IsSavedFile bytes table.0 table.1
IsSavedContent bytes (Err fault) = (fault ≢ refused.NoMemory) × IsSavedFault bytes fault

-- the bytes are this table file for the columns, or have this fault as one
abbrev pub IsTableContent : List Column → List ℕ → Result (List (List Value)) FileRefusal → Type 0
IsTableContent columns bytes (Ok rows) = IsTableFile columns bytes rows
IsTableContent columns bytes (Err fault) = (fault ≢ refused.NoMemory) × IsTableFault columns bytes fault

-- the bytes hold this
pub record IsContent (bytes : List ℕ) (content : Content) : Type 0 where
  pub saved : IsSavedContent bytes content.saved
  pub rows : (columns : List Column) → IsTableContent columns bytes (content.rows columns)

-- what the file of each name holds, where it has one
abbrev pub Contents : Type 0
Contents = List ℕ → Option Content

-- a file that is there holds this, and one that is not holds nothing
abbrev pub IsHeld : Option (List ℕ) → Option Content → Type 0
IsHeld None None = ⊤
IsHeld (Some bytes) (Some content) = IsContent bytes content
IsHeld _ _ = ⊥

-- the files hold this
abbrev pub AreContents : Folder → Contents → Type 0
AreContents folder contents = (name : List ℕ) → IsHeld (folder name) (contents name)

-- ---- what statements on files do

-- an OPEN of a file that was there at the start
abbrev pub opening_of : List ℕ → Result (List Column × List Pair) FileRefusal → Result Effect FileFault
opening_of name (Ok table) = Ok (opened name table.0 table.1)
opening_of name (Err fault) = Err (in_file fault)

-- an OPEN: of the file that the run saved under that name, else of the one that was there at the start
abbrev pub opening : List ℕ → List ℕ → Option (Held ℕ) → Option Content → Result Effect FileFault
opening name file (Some held) content = Ok (reopened name file)
opening name file None (Some content) = opening_of name content.saved
opening name file None None = Err (no_file file)

-- an IMPORT of a file that was there at the start
abbrev pub importing_of : List ℕ → Result (List (List Value)) FileRefusal → Result Effect FileFault
importing_of name (Ok rows) = Ok (imported name rows)
importing_of name (Err fault) = Err (in_file fault)

-- an IMPORT into a table of these columns: a file that the run saved is no table file
abbrev pub importing : List ℕ → List Column → List ℕ → Option (Held ℕ) → Option Content → Result Effect FileFault
importing name columns file (Some held) content = Err (in_file refused.Header)
importing name columns file None (Some content) = importing_of name (content.rows columns)
importing name columns file None None = Err (no_file file)

-- the columns of a name after statements
abbrev pub columns_after : List Effect → List ℕ → List Column
columns_after before name = or_else [] (schemas_of (known_after before) name)

-- what a statement that passed its checks does after those before it, or its file fault
abbrev pub effect_of : Contents → List Effect → Typed → Result Effect FileFault
effect_of start before (t.Save name file) = Ok (saved name file)
effect_of start before (t.OpenFile name file) = opening name file (found (sizes_after before).files file) (start file)
effect_of start before (t.ImportFile name file) = importing name (columns_after before name) file (found (sizes_after before).files file) (start file)
effect_of start before (t.Create name columns) = Ok (on_names (t.Create name columns, tt))
effect_of start before (t.Insert name rows) = Ok (on_names (t.Insert name rows, tt))
effect_of start before (t.Delete name cond) = Ok (on_names (t.Delete name cond, tt))
effect_of start before (t.Update name sets cond) = Ok (on_names (t.Update name sets cond, tt))
effect_of start before (t.Drop name) = Ok (on_names (t.Drop name, tt))
effect_of start before t.Tables = Ok (on_names (t.Tables, tt))
effect_of start before (t.Keep name query) = Ok (on_names (t.Keep name query, tt))
effect_of start before (t.PrintName name day) = Ok (on_names (t.PrintName name day, tt))
effect_of start before (t.PrintQuery query day) = Ok (on_names (t.PrintQuery query day, tt))
effect_of start before (t.Explain query) = Ok (on_names (t.Explain query, tt))
effect_of start before (t.Valid name day) = Ok (on_names (t.Valid name day, tt))
effect_of start before (t.Live name query) = Ok (on_names (t.Live name query, tt))

-- of a statement that passed its checks
abbrev pub taken : Result Effect FileFault → Result Effect Refused
taken (Ok effect) = Ok effect
taken (Err fault) = Err (by_file fault)

-- of a statement after its checks
abbrev pub outcome_of : Contents → List Effect → Checked Typed → Result Effect Refused
outcome_of start before (Ok typed) = taken (effect_of start before typed)
outcome_of start before (Err refusal) = Err (by_checks refusal)

-- what a statement does after those before it, or its first fault
abbrev pub outcome : Contents → List Effect → Stmt → Result Effect Refused
outcome start before stmt = outcome_of start before (checked (known_after before) stmt)
