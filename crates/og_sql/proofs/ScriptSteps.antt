-- The statements of a source, and its run.
use Rattle.std.proofs.Common.{◌≡◌, ℕ, List, [], Err, refl, ap}
use Rattle.og_syntax.specs.declared.tree.Stmt.{Stmt}
use Rattle.og_words.specs.Grammar.{IsCommand, absent, run}
use Rattle.og_words.specs.declared.command.Command.TheVariants as commands
use Rattle.og_io.specs.Folders.{Folder}
use Rattle.og_faults.specs.declared.fault.Fault.{Fault}
use Rattle.og_faults.specs.declared.stop.Stop.{Stop}
use Rattle.og_faults.specs.declared.stop.Stop.TheVariants as stops
use Rattle.og_script.specs.Scripts.{IsScript, IsScriptFault}
use Rattle.og_script.specs.Stops.{IsScriptStop, IsStopBefore}
use Rattle.og_script.proofs.Scripts.{Laws, no_fault, one_script}
use Rattle.og_session.specs.Contents.{AreContents, Contents}
use Rattle.og_session.specs.Runs.{IsDefinedRun, Run, run_from}
use Rattle.og_session.proofs.OneRun.{IsOneCommand, run_of_no_script, run_of_script}
use Rattle.og_sql.specs.Translations.{AreStatementsOf, EndsAfter, IsCarried, no_script, run_words, script}
use Rattle.og_sql.specs.declared.stop.SqlStop.TheVariants as sql
use Rattle.og_sql.proofs.RunSteps.{not_begun}

-- the words are the command run, by one worker
pub run_command : IsCommand run_words (commands.Run 1)
run_command = run [] 1 refl (absent refl refl) refl

module _ (laws : Laws) (one_command : IsOneCommand) (source : List ℕ) (start : Folder) (stmts : List Stmt) (it : Run) (defined : IsDefinedRun run_words source start it) (are : AreStatementsOf source stmts) where
  -- a source that is no script has no statement, and its run ends with its fault
  fault_ends : (fault : Fault) → IsScriptFault source fault → EndsAfter it [] (Err (sql.Run (stops.Fault fault)))
  fault_ends fault is = let e = run_of_no_script laws one_command run_words source fault start it (1, run_command) is defined in (ap (λ r. r.done) e, ap (λ r. r.end) e)

  pub script-stopped : (stop : Stop) (text : List ℕ) → IsStopBefore (commands.Run 1) stop → IsScriptStop source stop → text ≡ [] → IsCarried stmts it (Err (sql.Run stop)) text
  script-stopped (stops.Fault fault) text before is none = not_begun stmts it text (sql.Run (stops.Fault fault)) none (fault_ends fault is)
  script-stopped stops.ReadFault text before is none = not_begun stmts it text (sql.Run stops.ReadFault) none (it.done, refl)
  script-stopped stops.FileFault text before is none = absurd before
  script-stopped stops.WriteFault text before is none = absurd before
  script-stopped stops.NoMemory text before is none = not_begun stmts it text (sql.Run stops.NoMemory) none (it.done, refl)

  -- the statements that were read are those of the source, and the run is theirs
  pub script-read : (read : List Stmt) → IsScript source read → (contents : Contents) × AreContents start contents × (it ≡ run_from contents 1 [] read) × (stmts ≡ read)
  script-read read is = let (contents, holds, e) = run_of_script laws one_command run_words source start it (commands.Run 1) read run_command is defined in (contents, holds, e, by are)
    where
      by : AreStatementsOf source stmts → stmts ≡ read
      by (script given) = one_script laws source stmts read given is
      by (no_script fault bad none) = absurd (no_fault laws source fault read is bad)
