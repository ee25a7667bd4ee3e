-- Defined run: which statements a run carries out, what it writes, and how it ends.
use Rattle.std.specs.Prelude.{◌≡◌, ◌++◌, ℕ, suc, List, [], ◌∷◌, Result, Ok, Err}
use Rattle.og_syntax.specs.declared.tree.Stmt.{Stmt}
use Rattle.og_words.specs.Grammar.{IsCommand}
use Rattle.og_words.specs.declared.command.Command.{Command}
use Rattle.og_words.specs.declared.command.Command.TheVariants as commands
use Rattle.og_io.specs.Folders.{Folder}
use Rattle.og_db.specs.Effects.{Effect}
use Rattle.og_faults.specs.Refusals.{Refused}
use Rattle.og_faults.specs.Faults.{line_of}
use Rattle.og_faults.specs.Stops.{stop_of_refused}
use Rattle.og_faults.specs.declared.fault.Fault.{Fault}
use Rattle.og_faults.specs.declared.fault.Fault.TheVariants as faults
use Rattle.og_faults.specs.declared.stop.Stop.{Stop}
use Rattle.og_faults.specs.declared.stop.Stop.TheVariants as stops
use Rattle.og_script.specs.Scripts.{IsScriptFault, IsScriptOf}
use Rattle.og_session.specs.Contents.{Contents, AreContents, outcome}
use Rattle.og_session.specs.Output.{output_from}

-- ---- the statements

-- what the statements that are carried out do, and how the run ends: after all of them, or with a fault, which has its line and its status
pub record Run : Type 0 where
  pub done : List Effect
  pub end : Result (Unit {0}) Stop

-- all that a run writes
abbrev pub output : Run → List ℕ
output run = output_from [] run.done ++ line_of run.end

-- a run that carries out no statement, for this fault
abbrev pub refused : Fault → Run
refused fault = record { done = []; end = Err (stops.Fault fault) }

-- the run after the statements before, where the next one, which has that number, does this or is refused
abbrev pub after_outcome : ℕ → List Effect → (Effect → Run) → Result Effect Refused → Run
after_outcome n before next (Ok effect) = next effect
after_outcome n before next (Err refusal) = record { done = before; end = Err (stop_of_refused n refusal) }

-- the run of statements after those before, over what the files hold at the start: the first with a fault ends it
abbrev pub run_from : Contents → ℕ → List Effect → List Stmt → Run
run_from start n before [] = record { done = before; end = Ok tt }
run_from start n before (stmt ∷ stmts) = after_outcome n before (λ effect. run_from start (suc n) (before ++ effect ∷ []) stmts) (outcome start before stmt)

-- ---- the run

-- the words are the command run
abbrev pub IsRun : List (List ℕ) → Type 0
IsRun words = (workers : ℕ) × IsCommand words (commands.Run workers)

-- the words are no command
abbrev pub IsNoCommand : List (List ℕ) → Type 0
IsNoCommand words = (command : Command) → ¬ IsCommand words command

-- defined run of the words, the source's bytes and the files at the start
pub data IsDefinedRun (words : List (List ℕ)) (source : List ℕ) (start : Folder) (run : Run) : Type 0 where
  -- the words are no command
  no_command : IsNoCommand words → run ≡ refused faults.Words → IsDefinedRun words source start run
  -- the source is to be run, and is no script
  no_script : IsRun words → (fault : Fault) → IsScriptFault source fault → run ≡ refused fault → IsDefinedRun words source start run
  -- the statements run up to the first with a fault
  is_run : (command : Command) → IsCommand words command → (stmts : List Stmt) → IsScriptOf command source stmts
      → (contents : Contents) → AreContents start contents → run ≡ run_from contents 1 [] stmts → IsDefinedRun words source start run
