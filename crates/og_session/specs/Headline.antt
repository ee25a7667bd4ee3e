-- The seven clauses of the headline.
use Rattle.std.specs.Prelude.{◌≡◌, ◌<◌, ◌≤◌, ◌⊎◌, ◌++◌, ◌+◌, ⊤, ℕ, List, [], ◌∷◌, Option, Some, None, Contains, Err}
use Rattle.std.specs.Io.KnownBytes.{Appends}
use Rattle.og_base.specs.Told.{Rose, IsPrefix}
use Rattle.og_io.specs.Folders.{Folder}
use Rattle.og_io.specs.Sources.{TakesAtMost, max_part}
use Rattle.og_file.specs.PlainFiles.{IsPlainFile}
use Rattle.og_db.specs.Database.{Relation}
use Rattle.og_db.specs.Effects.{Effect, on_names, saved}
use Rattle.og_db.specs.Held.{Held, found}
use Rattle.og_db.specs.Runs.{IsWorldOf, stored}
use Rattle.og_faults.specs.Faults.{line_of, status_of}
use Rattle.og_faults.specs.declared.fault.Fault.{Fault}
use Rattle.og_faults.specs.declared.fault.Fault.TheVariants as faults
use Rattle.og_faults.specs.declared.stop.Stop.TheVariants as stops
use Rattle.og_script.specs.Scripts.{IsScriptFault, max_source}
use Rattle.og_session.specs.Asked.{AreAsked, asked, count_after}
use Rattle.og_session.specs.Output.{piece_of, output_from}
use Rattle.og_session.specs.Runs.{Run, IsRun, IsNoCommand, IsDefinedRun, output}

-- ---- what is seen of a call

-- the words, each device before and after, the database after, and the status
pub record Call : Type 0 where
  pub words : List (List ℕ)
  pub left : Option (List ℕ)
  pub left_after : Option (List ℕ)
  pub read_faults : ℕ
  pub read_faults_after : ℕ
  pub written : Option (List ℕ)
  pub written_after : Option (List ℕ)
  pub write_faults : ℕ
  pub write_faults_after : ℕ
  pub folder : Option Folder
  pub folder_after : Option Folder
  pub file_faults : ℕ
  pub file_faults_after : ℕ
  pub absences : ℕ
  pub absences_after : ℕ
  pub file_calls : ℕ
  pub file_calls_after : ℕ
  pub db : List (Held Relation)
  pub status : ℕ

-- the source tells these bytes, or the words do not ask for them
abbrev pub IsTold : Call → List ℕ → Type 0
IsTold call source = IsRun call.words → call.left ≡ Some source

-- the source and the files are told
pub record AreTold (call : Call) (bytes : List ℕ) (start : Folder) : Type 0 where
  pub source : IsTold call bytes
  pub files : call.folder ≡ Some start

-- the status is one of these
abbrev pub IsOneOf : Call → List ℕ → Type 0
IsOneOf call statuses = Contains statuses call.status

-- the run was stopped: a device failed, or memory ran out
abbrev pub IsStopped : Call → Type 0
IsStopped call = IsOneOf call (6 ∷ 7 ∷ 8 ∷ 9 ∷ [])

-- this is the defined run of the call
abbrev pub IsDefined : Call → List ℕ → Folder → Run → Type 0
IsDefined call source start run = IsDefinedRun call.words source start run

-- the run ended as it is defined
abbrev pub IsAsDefined : Call → List ℕ → Folder → Type 0
IsAsDefined call source start = (run : Run) × IsDefined call source start run × (status_of run.end ≡ call.status)

-- ---- the state

-- what is under a name: the plain saved file of what the run saved last, and else what was there at the start
abbrev pub IsFileOf : Option (Held Relation) → Option (List ℕ) → Option (List ℕ) → Type 0
IsFileOf (Some held) start now = (bytes : List ℕ) × (now ≡ Some bytes) × IsPlainFile bytes held.columns held.rows
IsFileOf None start now = now ≡ start

-- the files are told, and under each name but those excepted is what was saved last, and else what was there at the start
abbrev pub HoldFiles : (List ℕ → Type 0) → Folder → List (Held Relation) → Option Folder → Type 0
HoldFiles except start files None = ⊥
HoldFiles except start files (Some folder) = (name : List ℕ) → ¬ except name → IsFileOf (found files name) (start name) (folder name)

-- on each day some names and the files that were saved are the world of that day after the statements, but for the files that are excepted;
-- the database holds these names but the live ones, which are neither tables nor kept results
pub record IsStateBut (except : List ℕ → Type 0) (start : Folder) (effects : List Effect) (db : List (Held Relation)) (folder : Option Folder) : Type 0 where
  pub files : List (Held Relation)
  pub names : List (Held Relation)
  pub held : HoldFiles except start files folder
  pub world : IsWorldOf names files effects
  pub left : db ≡ stored names

-- no name
abbrev pub no_name : List ℕ → Type 0
no_name name = ⊥

-- the same, without exception
abbrev pub IsStateOf : Folder → List Effect → List (Held Relation) → Option Folder → Type 0
IsStateOf = IsStateBut no_name

-- ---- a run that was cut short

-- what is written next, after the first statements of a run
abbrev pub next_piece : List Effect → List Effect → List ℕ → List ℕ
next_piece before [] line = line
next_piece before (e ∷ es) line = piece_of before e

-- some first statements were carried out and their pieces written, and of what comes next a front
pub record IsCut (run : Run) (text : List ℕ) : Type 0 where
  pub before : List Effect
  pub after : List Effect
  pub front : List ℕ
  pub parts : run.done ≡ before ++ after
  pub written : text ≡ output_from [] before ++ front
  pub begun : IsPrefix front (next_piece before after (line_of run.end))

-- the run was cut short, in the state after its first statements
pub record IsCutShort (run : Run) (start : Folder) (db : List (Held Relation)) (folder : Option Folder) (text : List ℕ) : Type 0 where
  pub cut : IsCut run text
  pub state : IsStateOf start cut.before db folder

-- the run was cut short at a piece that is not empty
pub record IsCutAtPiece (run : Run) (start : Folder) (db : List (Held Relation)) (folder : Option Folder) (text : List ℕ) : Type 0 where
  pub short : IsCutShort run start db folder text
  pub some : ¬ (next_piece short.cut.before short.cut.after (line_of run.end) ≡ [])

-- the next statement, which passed its checks, is an OPEN, an IMPORT or a SAVE: one that is carried out, or one with a file fault
abbrev pub IsAtFile : List Effect → ℕ → Type 0
IsAtFile [] status = status ≡ 5
IsAtFile (on_names stmt ∷ after) status = ⊥
IsAtFile (_ ∷ after) status = ⊤

-- the name that the next statement writes, where it is a SAVE
abbrev pub is_written_by : List Effect → List ℕ → Type 0
is_written_by (saved name file ∷ after) other = other ≡ file
is_written_by _ other = ⊥

-- the run was cut short at a file: nothing is known of the one that the next statement writes
pub record IsCutAtFile (run : Run) (start : Folder) (db : List (Held Relation)) (folder : Option Folder) (text : List ℕ) : Type 0 where
  pub cut : IsCut run text
  pub state : IsStateBut (is_written_by cut.after) start cut.before db folder
  pub at : IsAtFile cut.after (status_of run.end)

-- ---- the calls of the files

-- some first statements of a run were carried out: the names and the files are as after them, but for the file that the next one writes;
-- and the files were asked once for each of them that is on files, and perhaps once more
pub record IsCounted (run : Run) (start : Folder) (db : List (Held Relation)) (folder : Option Folder) (old now : ℕ) : Type 0 where
  pub before : List Effect
  pub after : List Effect
  pub parts : run.done ≡ before ++ after
  pub state : IsStateBut (is_written_by after) start before db folder
  pub asked : AreAsked before old now

-- ---- the clauses

-- status
pub record HasStatus (call : Call) : Type 0 where
  pub defined : (source : List ℕ) (start : Folder) → AreTold call source start → IsStopped call ⊎ IsAsDefined call source start
  pub answers : IsOneOf call (0 ∷ 2 ∷ 3 ∷ 4 ∷ 5 ∷ 6 ∷ 7 ∷ 8 ∷ 9 ∷ [])
  pub drained : (source : List ℕ) → IsRun call.words → call.left ≡ Some source → call.status ≡ 0 → call.left_after ≡ Some []
  pub no_command : IsNoCommand call.words → IsOneOf call (2 ∷ 8 ∷ 9 ∷ [])
  pub command : call.status ≡ 2 → IsNoCommand call.words
  pub no_script : (source : List ℕ) (fault : Fault) → IsRun call.words → call.left ≡ Some source → IsScriptFault source fault → IsOneOf call (3 ∷ 6 ∷ 8 ∷ 9 ∷ [])
  pub script : (source : List ℕ) → IsTold call source → call.status ≡ 3 → IsRun call.words × (fault : Fault) × IsScriptFault source fault

-- what was written: a front of the defined output, all of it unless the run was stopped, and nothing at a fault of the source
pub record IsOutput (call : Call) (source : List ℕ) (start : Folder) (text : List ℕ) : Type 0 where
  pub appended : Appends call.written call.written_after text
  pub front : (run : Run) → IsDefined call source start run → IsPrefix text (output run)
  pub whole : IsOneOf call (7 ∷ 8 ∷ 9 ∷ []) ⊎ ((call.status ≡ 6) × (text ≡ []) ⊎ ((run : Run) × IsDefined call source start run × (status_of run.end ≡ call.status) × (text ≡ output run)))

-- the bytes that were told stay, and more may stand behind them
abbrev pub HasGrown : Option (List ℕ) → Option (List ℕ) → Type 0
HasGrown old new = (text : List ℕ) × Appends old new text

-- output: what stood in the sink stays, whatever is told; and where all is told, what was written is as defined
pub record HasOutput (call : Call) : Type 0 where
  pub grown : HasGrown call.written call.written_after
  pub text : (source : List ℕ) (start : Folder) → AreTold call source start → (text : List ℕ) × IsOutput call source start text

-- state: that after the statements that the defined run carries out, unless the run was stopped
pub record HasState (call : Call) : Type 0 where
  pub state : (source : List ℕ) (start : Folder) → AreTold call source start
      → IsStopped call ⊎ ((run : Run) × IsDefined call source start run × (status_of run.end ≡ call.status) × IsStateOf start run.done call.db call.folder_after)
  pub no_names : IsOneOf call (2 ∷ 3 ∷ 6 ∷ []) → call.db ≡ []
  pub files_stay : IsOneOf call (2 ∷ 3 ∷ 6 ∷ []) → call.folder_after ≡ call.folder

-- how the run was stopped: cut short where memory ran out, at a file where the files failed, and at a piece that is not empty where the sink failed
pub record IsStop (call : Call) (start : Folder) (text : List ℕ) (run : Run) : Type 0 where
  pub appended : Appends call.written call.written_after text
  pub no_memory : call.status ≡ 9 → IsCutShort run start call.db call.folder_after text
  pub unwritten : call.status ≡ 8 → IsCutAtPiece run start call.db call.folder_after text
  pub no_file : call.status ≡ 7 → IsCutAtFile run start call.db call.folder_after text

-- stop
abbrev pub HasStop : Call → Type 0
HasStop call = (source : List ℕ) (start : Folder) → AreTold call source start → (text : List ℕ) × ((run : Run) → IsDefined call source start run → IsStop call start text run)

-- a status of a device comes where its count of faults rose, and wherever the count went up; the count never falls
pub record IsCause (status faults faults_after : ℕ) (call : Call) : Type 0 where
  pub cause : call.status ≡ status → Rose faults faults_after
  pub told : faults < faults_after → call.status ≡ status
  pub kept : faults ≤ faults_after

-- cause
pub record HasCause (call : Call) : Type 0 where
  pub read : IsCause 6 call.read_faults call.read_faults_after call
  pub run : call.status ≡ 6 → IsRun call.words
  pub file : IsCause 7 call.file_faults call.file_faults_after call
  pub write : IsCause 8 call.write_faults call.write_faults_after call
  pub absent : (source : List ℕ) (start : Folder) → AreTold call source start → (run : Run) → IsDefined call source start run
      → (n : ℕ) (file : List ℕ) → run.end ≡ Err (stops.Fault (faults.NoFile n file)) → call.status ≡ 5 → Rose call.absences call.absences_after
  pub absences : call.absences ≤ call.absences_after

-- no count of faults rose
pub record AreUnfailed (call : Call) : Type 0 where
  pub read : ¬ Rose call.read_faults call.read_faults_after
  pub file : ¬ Rose call.file_faults call.file_faults_after
  pub write : ¬ Rose call.write_faults call.write_faults_after

-- completeness
abbrev pub IsComplete : Call → Type 0
IsComplete call = (source : List ℕ) (start : Folder) → AreTold call source start → AreUnfailed call → (call.status ≡ 9) ⊎ IsAsDefined call source start

-- reading: of a source at most its limit and one part are taken; and the files are asked once for each statement on files that was carried out,
-- and where the run did not come to its end perhaps once more
pub record HasReads (call : Call) : Type 0 where
  pub source : TakesAtMost (max_source + max_part) call.left call.left_after
  pub files : (source : List ℕ) (start : Folder) → AreTold call source start → (run : Run) → IsDefined call source start run
      → (counted : IsCounted run start call.db call.folder_after call.file_calls call.file_calls_after)
      × (IsStopped call ⊎ (counted.after ≡ []))
      × (call.status ≡ 0 → call.file_calls_after ≡ count_after call.file_calls (asked run.done))

-- the headline: its seven clauses
pub record Headline (call : Call) : Type 0 where
  pub status : HasStatus call
  pub output : HasOutput call
  pub state : HasState call
  pub stop : HasStop call
  pub cause : HasCause call
  pub reads : HasReads call
  pub complete : IsComplete call
