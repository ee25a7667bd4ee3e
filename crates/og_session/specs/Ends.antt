-- How the code's run ends. Beside private functions alone.
use Rattle.std.specs.Prelude.{◌≡◌, ◌++◌, ◌⊎◌, ⊤, ℕ, List, [], ◌∷◌, Option, Some, Contains, Result, Ok, Err}
use Rattle.og_base.specs.Told.{IsPrefix}
use Rattle.og_io.specs.Folders.{Folder}
use Rattle.og_db.specs.Database.{Relation}
use Rattle.og_db.specs.Effects.{Effect, on_names, saved}
use Rattle.og_db.specs.Held.{Held}
use Rattle.og_db.specs.Runs.{stored}
use Rattle.og_faults.specs.Refusals.{Refused}
use Rattle.og_faults.specs.Faults.{fault_status, line_of, status_of}
use Rattle.og_faults.specs.Stops.{stop_of_refused}
use Rattle.og_faults.specs.declared.fault.Fault.{Fault}
use Rattle.og_faults.specs.declared.stop.Stop.{Stop}
use Rattle.og_faults.specs.declared.stop.Stop.TheVariants as stops
use Rattle.og_script.specs.Scripts.{IsScriptFault}
use Rattle.og_session.specs.Asked.{asked, count_after}
use Rattle.og_session.specs.Headline.{IsCounted, IsCutShort, IsCutAtPiece, IsCutAtFile, HoldFiles, IsStateBut, IsStateOf, no_name}
use Rattle.og_session.specs.Names.{Watched, IsRunning}
use Rattle.og_session.specs.Output.{piece_of, output_from}
use Rattle.og_session.specs.Runs.{Run, IsNoCommand, IsRun, output}

-- ---- the words and the script

-- the run ended with one of these statuses
abbrev pub EndsWith : List ℕ → Result (Unit {0}) Stop → Type 0
EndsWith statuses end = Contains statuses (status_of end)

-- what is known of an end whatever is told of the files
pub record IsEndOf (words : List (List ℕ)) (left : Option (List ℕ)) (end : Result (Unit {0}) Stop) : Type 0 where
  pub no_command : IsNoCommand words → EndsWith (2 ∷ 8 ∷ 9 ∷ []) end
  pub command : status_of end ≡ 2 → IsNoCommand words
  pub run : status_of end ≡ 6 → IsRun words
  pub no_script : (source : List ℕ) (fault : Fault) → IsRun words → left ≡ Some source → IsScriptFault source fault → EndsWith (3 ∷ 6 ∷ 8 ∷ 9 ∷ []) end
  pub script : (source : List ℕ) → (IsRun words → left ≡ Some source) → status_of end ≡ 3 → IsRun words × (fault : Fault) × IsScriptFault source fault

-- ---- the statements

-- what a statement writes, or the line of its fault
abbrev pub piece_or_line : ℕ → List Effect → Result Effect Refused → List ℕ
piece_or_line n before (Ok effect) = piece_of before effect
piece_or_line n before (Err refusal) = line_of (Err (stop_of_refused n refusal))

-- a statement with that number asks for a file: one that is carried out, or one with a file fault
abbrev pub IsOfFile : ℕ → Result Effect Refused → Type 0
IsOfFile n (Ok (on_names stmt)) = ⊥
IsOfFile n (Ok _) = ⊤
IsOfFile n (Err refusal) = status_of (Err (stop_of_refused n refusal)) ≡ 5

-- the name that a statement writes, where it is a SAVE
abbrev pub is_saved_by : Result Effect Refused → List ℕ → Type 0
is_saved_by (Ok (saved name file)) other = other ≡ file
is_saved_by _ other = ⊥

-- what a run holds and the files are the state after these statements
pub record IsHeldState (start : Folder) (effects : List Effect) (held : Watched) (folder : Option Folder) : Type 0 where
  pub files : List (Held Relation)
  pub held_files : HoldFiles no_name start files folder
  pub running : IsRunning held files effects

-- what a run would leave is the state after these statements, but for the files that are excepted
abbrev pub IsLeftBut : (List ℕ → Type 0) → Folder → List Effect → Watched → Option Folder → Type 0
IsLeftBut except start effects held folder = IsStateBut except start effects (stored held.names) folder

-- the same, without exception
abbrev pub IsLeft : Folder → List Effect → Watched → Option Folder → Type 0
IsLeft = IsLeftBut no_name

-- how one statement ends, after those before, where it should do this or be refused so: with its piece and its world, with its fault, or with a front of what it writes
abbrev pub StepEnds : Folder → ℕ → List Effect → Result Effect Refused → Watched → Option Folder → List ℕ → Result (Unit {0}) Stop → Type 0
StepEnds start n before outcome held folder text (Ok done) =
    (effect : Effect) × (outcome ≡ Ok effect) × IsHeldState start (before ++ effect ∷ []) held folder × (text ≡ piece_of before effect)
StepEnds start n before outcome held folder text (Err (stops.Fault fault)) =
    (refusal : Refused) × (outcome ≡ Err refusal) × (stop_of_refused n refusal ≡ stops.Fault fault) × IsLeft start before held folder × (text ≡ [])
StepEnds start n before outcome held folder text (Err stops.ReadFault) = ⊥
StepEnds start n before outcome held folder text (Err stops.FileFault) = IsOfFile n outcome × IsLeftBut (is_saved_by outcome) start before held folder × (text ≡ [])
StepEnds start n before outcome held folder text (Err stops.WriteFault) = IsLeft start before held folder × IsPrefix text (piece_or_line n before outcome) × (¬ (piece_or_line n before outcome ≡ []))
StepEnds start n before outcome held folder text (Err stops.NoMemory) = IsLeft start before held folder × IsPrefix text (piece_or_line n before outcome)

-- a statement of files is stopped by its file, by the files or by want of memory
abbrev pub IsFileStop : Result (Unit {0}) Stop → Type 0
IsFileStop (Ok done) = ⊤
IsFileStop (Err (stops.Fault fault)) = fault_status fault ≡ 5
IsFileStop (Err stops.FileFault) = ⊤
IsFileStop (Err stops.NoMemory) = ⊤
IsFileStop (Err _) = ⊥

-- a statement of names that passed its checks is stopped by the sink or by want of memory
abbrev pub IsPutStop : Result (Unit {0}) Stop → Type 0
IsPutStop (Ok done) = ⊤
IsPutStop (Err stops.WriteFault) = ⊤
IsPutStop (Err stops.NoMemory) = ⊤
IsPutStop (Err _) = ⊥

-- a statement is stopped by its checks, by its file, by the files, by the sink or by want of memory
abbrev pub IsStepStop : Result (Unit {0}) Stop → Type 0
IsStepStop (Err (stops.Fault fault)) = (fault_status fault ≡ 4) ⊎ (fault_status fault ≡ 5)
IsStepStop (Err stops.ReadFault) = ⊥
IsStepStop _ = ⊤

-- ---- the run

-- the run ended as it is defined, before any line of a fault: what was written, and the state after the statements that were carried out
pub record IsUnreported (run : Run) (start : Folder) (db : List (Held Relation)) (folder : Option Folder) (text : List ℕ) (end : Result (Unit {0}) Stop) : Type 0 where
  pub ended : run.end ≡ end
  pub written : text ≡ output_from [] run.done
  pub state : IsStateOf start run.done db folder

-- how the statements end, before any line of a fault
abbrev pub RunEnds : Run → Folder → List (Held Relation) → Option Folder → List ℕ → Result (Unit {0}) Stop → Type 0
RunEnds run start db folder text (Ok done) = IsUnreported run start db folder text (Ok tt)
RunEnds run start db folder text (Err (stops.Fault fault)) = IsUnreported run start db folder text (Err (stops.Fault fault))
RunEnds run start db folder text (Err stops.ReadFault) = ⊥
RunEnds run start db folder text (Err stops.FileFault) = IsCutAtFile run start db folder text
RunEnds run start db folder text (Err stops.WriteFault) = IsCutAtPiece run start db folder text
RunEnds run start db folder text (Err stops.NoMemory) = IsCutShort run start db folder text

-- how a run ends, over its defined run, before any line of a fault
abbrev pub EndsUnreported : Run → Folder → List (Held Relation) → Option Folder → List ℕ → Result (Unit {0}) Stop → Type 0
EndsUnreported run start db folder text (Err stops.ReadFault) = text ≡ []
EndsUnreported run start db folder text end = RunEnds run start db folder text end

-- the run ended as it is defined: it wrote all, and the state is that after the statements that were carried out
pub record IsWhole (run : Run) (start : Folder) (db : List (Held Relation)) (folder : Option Folder) (text : List ℕ) (end : Result (Unit {0}) Stop) : Type 0 where
  pub ended : run.end ≡ end
  pub written : text ≡ output run
  pub state : IsStateOf start run.done db folder

-- how a run ends, over its defined run
abbrev pub Ends : Run → Folder → List (Held Relation) → Option Folder → List ℕ → Result (Unit {0}) Stop → Type 0
Ends run start db folder text (Ok done) = IsWhole run start db folder text (Ok tt)
Ends run start db folder text (Err (stops.Fault fault)) = IsWhole run start db folder text (Err (stops.Fault fault))
Ends run start db folder text (Err stops.ReadFault) = text ≡ []
Ends run start db folder text (Err stops.FileFault) = IsCutAtFile run start db folder text
Ends run start db folder text (Err stops.WriteFault) = IsCutAtPiece run start db folder text
Ends run start db folder text (Err stops.NoMemory) = IsCutShort run start db folder text

-- ---- the calls of the files

-- how often a run asked the files, over its defined run: for all statements, unless it was stopped, and then for some first ones
abbrev pub RunAsks : Run → Folder → List (Held Relation) → Option Folder → ℕ → ℕ → Result (Unit {0}) Stop → Type 0
RunAsks run start db folder old now (Ok done) = (counted : IsCounted run start db folder old now) × (counted.after ≡ []) × (now ≡ count_after old (asked run.done))
RunAsks run start db folder old now (Err (stops.Fault fault)) = (counted : IsCounted run start db folder old now) × (counted.after ≡ [])
RunAsks run start db folder old now (Err _) = IsCounted run start db folder old now
