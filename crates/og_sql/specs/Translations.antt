-- What a translation writes: the SQL of the statements that a run of the script carries out, each under its text.
use Rattle.std.specs.Prelude.{◌≡◌, ◌++◌, ◌∷◌, ◌⊎◌, [], true, false, ⊤, ℕ, suc, List, Option, Some, None, Result, Ok, Err, codes, length}
use Rattle.std.specs.List.{All, flat_map}
use Rattle.std.specs.Io.KnownBytes.{Appends}
use Rattle.og_base.specs.Told.{AppendsFront}
use Rattle.og_io.specs.Folders.{Folder, HasFile, IsSame}
use Rattle.og_syntax.specs.declared.tree.Stmt.{Stmt}
use Rattle.og_db.specs.Effects.{Effect, on_names, saved, reopened, opened, imported}
use Rattle.og_faults.specs.Refusals.{Refused}
use Rattle.og_faults.specs.Stops.{stop_of_refused}
use Rattle.og_faults.specs.declared.fault.Fault.{Fault}
use Rattle.og_faults.specs.declared.fault.Fault.TheVariants as faults
use Rattle.og_faults.specs.declared.stop.Stop.TheVariants as stops
use Rattle.og_script.specs.Scripts.{IsScript, IsScriptFault}
use Rattle.og_session.specs.Contents.{AreContents, Contents}
use Rattle.og_session.specs.Runs.{Run}
use Rattle.og_outline.specs.Outlines.{IsOutlineOf, Outlined}
use Rattle.og_sql_outside.specs.Outside.{outside_statement, outside_rows, outside_rel}
use Rattle.og_sql_outside.specs.declared.values.Outside.{Outside}
use Rattle.og_sql.specs.Comments.{comment_above, told}
use Rattle.og_sql.specs.Ends.{End, is_cut, line_of}
use Rattle.og_sql.specs.Head.{head}
use Rattle.og_sql.specs.declared.stop.SqlStop.{SqlStop}
use Rattle.og_sql.specs.declared.stop.SqlStop.TheVariants as sql

-- ---- the statements of a source

-- the words of the command run
abbrev pub run_words : List (List ℕ)
run_words = codes "run" ∷ []

-- the statements of a source: none where it is no script
pub data AreStatementsOf (source : List ℕ) (stmts : List Stmt) : Type 0 where
  script : IsScript source stmts → AreStatementsOf source stmts
  no_script : (fault : Fault) → IsScriptFault source fault → stmts ≡ [] → AreStatementsOf source stmts

-- ---- the pieces

-- the first value of what a statement does that PostgreSQL cannot hold
abbrev pub outside_effect : Effect → Option Outside
outside_effect (on_names stmt) = outside_statement stmt.0
outside_effect (saved name file) = None
outside_effect (reopened name file) = None
outside_effect (opened name columns rel) = outside_rel rel
outside_effect (imported name rows) = outside_rows rows

-- PostgreSQL can hold it
abbrev pub IsInside : Effect → Type 0
IsInside effect = outside_effect effect ≡ None

-- a piece of SQL stands under the text of its statement
abbrev pub IsUnder : Stmt → List ℕ → Type 0
IsUnder stmt piece = (sql : List ℕ) × (piece ≡ comment_above stmt ++ sql)

-- each piece stands under the text of its statement, from the first statement on, and there may be more statements
abbrev pub AreUnder : List Stmt → List (List ℕ) → Type 0
AreUnder stmts [] = ⊤
AreUnder [] (piece ∷ pieces) = ⊥
AreUnder (stmt ∷ stmts) (piece ∷ pieces) = IsUnder stmt piece × AreUnder stmts pieces

-- the pieces of the statements that a run carried out, and no more
pub record ArePieces (stmts : List Stmt) (done : List Effect) (pieces : List (List ℕ)) : Type 0 where
  pub under : AreUnder stmts pieces
  pub count : length pieces ≡ length done
  pub inside : All IsInside done

-- ---- the end

-- how it ends after these statements of the run: as the run, or at the next statement
abbrev pub EndsAfter : Run → List Effect → End → Type 0
EndsAfter run before (Ok done) = (run.done ≡ before) × (run.end ≡ Ok tt)
EndsAfter run before (Err (sql.Run (stops.Fault fault))) = (run.done ≡ before) × (run.end ≡ Err (stops.Fault fault))
EndsAfter run before (Err (sql.Run stop)) = (after : List Effect) × (run.done ≡ before ++ after)
EndsAfter run before (Err (sql.Outside n what)) =
    (effect : Effect) × (after : List Effect) × (run.done ≡ before ++ effect ∷ after) × (n ≡ suc (length before)) × (outside_effect effect ≡ Some what)

-- a text is the pieces of the statements that the run carried out, up to this end
pub record IsCarried (stmts : List Stmt) (run : Run) (end : End) (text : List ℕ) : Type 0 where
  pub before : List Effect
  pub pieces : List (List ℕ)
  pub are : ArePieces stmts before pieces
  pub ends : EndsAfter run before end
  pub whole : text ≡ flat_map (λ piece. piece) pieces

-- a text is the SQL of the run: the head, its pieces, and what asks psql for the line of the end
pub record IsTranslation (stmts : List Stmt) (run : Run) (end : End) (text : List ℕ) : Type 0 where
  pub body : List ℕ
  pub carried : IsCarried stmts run end body
  pub whole : text ≡ head ++ body ++ told (line_of end)

-- the sink failed, or memory ran out
abbrev pub IsUnwritten : End → Type 0
IsUnwritten end = (end ≡ Err (sql.Run stops.WriteFault)) ⊎ (end ≡ Err (sql.Run stops.NoMemory))

-- what is written: the text of the end; nothing where the run was cut; or a front of the text of another end, which could not be written
pub data IsWritten (stmts : List Stmt) (run : Run) (end : End) (old new : Option (List ℕ)) : Type 0 where
  all : is_cut end ≡ false → (text : List ℕ) → IsTranslation stmts run end text → Appends old new text → IsWritten stmts run end old new
  none : is_cut end ≡ true → Appends old new [] → IsWritten stmts run end old new
  front : IsUnwritten end → (other : End) → is_cut other ≡ false → (text : List ℕ) → IsTranslation stmts run other text → AppendsFront old new text → IsWritten stmts run end old new

-- ---- one statement

-- the files are those of the start
abbrev pub AreAtStart : Folder → Option Folder → Type 0
AreAtStart start None = ⊥
AreAtStart start (Some folder) = IsSame start folder

-- what is held before a statement: the outline of those before it, and the files of the start with what they hold
pub record IsHeldAt (start : Folder) (contents : Contents) (before : List Effect) (o : Outlined) (folder : Option Folder) : Type 0 where
  pub holds : AreContents start contents
  pub outline : IsOutlineOf o before
  pub files : AreAtStart start folder

-- how one statement ends that should do this or be refused so: with its outline, with its fault, or with its value outside PostgreSQL
abbrev pub StepEnds : {T : Type 0} → ℕ → List Effect → Result Effect Refused → Outlined → Result T SqlStop → Type 0
StepEnds n before outcome o (Ok done) = (effect : Effect) × (outcome ≡ Ok effect) × IsInside effect × IsOutlineOf o (before ++ effect ∷ [])
StepEnds n before outcome o (Err (sql.Run (stops.Fault fault))) = (refusal : Refused) × (outcome ≡ Err refusal) × (stop_of_refused n refusal ≡ stops.Fault fault)
StepEnds n before outcome o (Err (sql.Run stops.FileFault)) = ⊤
StepEnds n before outcome o (Err (sql.Run stops.NoMemory)) = ⊤
StepEnds n before outcome o (Err (sql.Run stops.ReadFault)) = ⊥
StepEnds n before outcome o (Err (sql.Run stops.WriteFault)) = ⊥
StepEnds n before outcome o (Err (sql.Outside m what)) = (effect : Effect) × (outcome ≡ Ok effect) × (m ≡ n) × (outside_effect effect ≡ Some what)

-- how a file is read, at the statement with that number: its bytes, or that there is none
abbrev pub ReadEnds : {T : Type 0} → ℕ → Option Folder → List ℕ → List ℕ → Result T SqlStop → Type 0
ReadEnds n folder file buffer (Ok done) = HasFile folder file (Some buffer)
ReadEnds n folder file buffer (Err (sql.Run (stops.Fault fault))) = HasFile folder file None × (fault ≡ faults.NoFile n file)
ReadEnds n folder file buffer (Err (sql.Run stops.FileFault)) = ⊤
ReadEnds n folder file buffer (Err (sql.Run stops.NoMemory)) = ⊤
ReadEnds n folder file buffer (Err (sql.Run stops.ReadFault)) = ⊥
ReadEnds n folder file buffer (Err (sql.Run stops.WriteFault)) = ⊥
ReadEnds n folder file buffer (Err (sql.Outside m what)) = ⊥

-- rows that PostgreSQL can hold were taken, and others refused, where memory did not run out
abbrev pub IsHeldUnless : ℕ → Option Outside → Result (Unit {0}) SqlStop → Type 0
IsHeldUnless n found (Ok done) = found ≡ None
IsHeldUnless n found (Err (sql.Outside m what)) = (m ≡ n) × (found ≡ Some what)
IsHeldUnless n found (Err (sql.Run stops.NoMemory)) = ⊤
IsHeldUnless n found (Err (sql.Run _)) = ⊥

-- nothing but memory can be wanting
abbrev pub IsMade : {T : Type 0} → Result T SqlStop → Type 0
IsMade (Ok done) = ⊤
IsMade (Err (sql.Run stops.NoMemory)) = ⊤
IsMade (Err _) = ⊥

-- a statement ends neither at the source nor at the sink
abbrev pub IsStatementEnd : {T : Type 0} → Result T SqlStop → Type 0
IsStatementEnd (Err (sql.Run stops.ReadFault)) = ⊥
IsStatementEnd (Err (sql.Run stops.WriteFault)) = ⊥
IsStatementEnd _ = ⊤
