-- Words, the bytes of a source and files have one run.
use Rattle.std.proofs.Common.{◌≡◌, ◌⊎◌, inl, inr, [], ℕ, List, refl, sym, ap, ◌∙◌, subst}
use Rattle.og_syntax.specs.declared.tree.Stmt.{Stmt}
use Rattle.og_words.specs.Grammar.{IsCommand}
use Rattle.og_words.specs.declared.command.Command.{Command}
use Rattle.og_words.specs.declared.command.Command.TheVariants as commands
use Rattle.og_io.specs.Folders.{Folder}
use Rattle.og_faults.specs.declared.fault.Fault.{Fault}
use Rattle.og_faults.specs.declared.fault.Fault.TheVariants as faults
use Rattle.og_script.specs.Commands.{at_script, load_script}
use Rattle.og_script.specs.Scripts.{IsScriptFault, IsScriptOf}
use Rattle.og_script.proofs.Scripts.{IsScriptOrNot, Laws, one_script, no_fault, one_fault}
use Rattle.og_session.specs.Contents.{AreContents, Contents}
use Rattle.og_session.specs.Runs.{Run, IsDefinedRun, IsRun, IsNoCommand, no_command, no_script, is_run, refused, run_from}

-- words are one command at most
abbrev pub IsOneCommand : Type 0
IsOneCommand = (words : List (List ℕ)) (a b : Command) → IsCommand words a → IsCommand words b → a ≡ b

module _ (laws : Laws) (one_command : IsOneCommand) where
  -- a command runs one list of statements at most
  one_script_of : (command : Command) (source : List ℕ) (xs ys : List Stmt) → IsScriptOf command source xs → IsScriptOf command source ys → xs ≡ ys
  one_script_of (commands.Run workers) source xs ys x y = one_script laws source xs ys x y
  one_script_of (commands.At file day) source xs ys x y = x ∙ sym y
  one_script_of (commands.Load rows workers) source xs ys x y = x ∙ sym y

  -- the same of one command that is said twice
  one_script_of_words : (words : List (List ℕ)) (source : List ℕ) (a b : Command) (xs ys : List Stmt) → IsCommand words a → IsCommand words b → IsScriptOf a source xs → IsScriptOf b source ys → xs ≡ ys
  one_script_of_words words source a b xs ys is other x y = one_script_of a source xs ys x (subst (λ c. IsScriptOf c source ys) (one_command words b a other is) y)

  -- the command run whose source has a fault runs no statements
  faulty : {A : Type 0} (words : List (List ℕ)) (source : List ℕ) (why : Fault) (command : Command) (stmts : List Stmt) → IsRun words → IsScriptFault source why → IsCommand words command → IsScriptOf command source stmts → A
  faulty words source why command stmts (workers, other) fault is script =
      absurd (no_fault laws source why stmts (subst (λ c. IsScriptOf c source stmts) (one_command words command (commands.Run workers) is other) script) fault)

  -- the run of words that are no command
  pub run_of_no_command : (words : List (List ℕ)) (source : List ℕ) (start : Folder) (run : Run) → IsNoCommand words → IsDefinedRun words source start run → run ≡ refused faults.Words
  run_of_no_command words source start run none (no_command other e) = e
  run_of_no_command words source start run none (no_script (workers, is) why fault e) = absurd (none (commands.Run workers) is)
  run_of_no_command words source start run none (is_run command is stmts script contents are e) = absurd (none command is)

  -- the run of the command run, of a source with a fault
  pub run_of_no_script : (words : List (List ℕ)) (source : List ℕ) (why : Fault) (start : Folder) (run : Run) → IsRun words → IsScriptFault source why → IsDefinedRun words source start run → run ≡ refused why
  run_of_no_script words source why start run (workers, is) fault (no_command none e) = absurd (none (commands.Run workers) is)
  run_of_no_script words source why start run is fault (no_script other second last e) = e ∙ ap refused (one_fault laws source second why last fault)
  run_of_no_script words source why start run is fault (is_run command other stmts script contents are e) = faulty words source why command stmts is fault other script

  -- the run of a command and its statements
  pub run_of_script : (words : List (List ℕ)) (source : List ℕ) (start : Folder) (run : Run) (command : Command) (stmts : List Stmt) → IsCommand words command → IsScriptOf command source stmts → IsDefinedRun words source start run
      → (contents : Contents) × AreContents start contents × (run ≡ run_from contents 1 [] stmts)
  run_of_script words source start run command stmts is script (no_command none e) = absurd (none command is)
  run_of_script words source start run command stmts is script (no_script other why fault e) = faulty words source why command stmts other fault is script
  run_of_script words source start run command stmts is script (is_run second other others last contents are e) =
      (contents, are, e ∙ ap (run_from contents 1 []) (one_script_of_words words source second command others stmts other is last script))

  module _ (one_content : (start : Folder) (a b : Contents) → AreContents start a → AreContents start b → a ≡ b) where
    -- words, a source and files have one run at most
    pub one_run : (words : List (List ℕ)) (source : List ℕ) (start : Folder) (first second : Run) → IsDefinedRun words source start first → IsDefinedRun words source start second → first ≡ second
    one_run words source start first second (no_command none e) defined = e ∙ sym (run_of_no_command words source start second none defined)
    one_run words source start first second (no_script is why fault e) defined = e ∙ sym (run_of_no_script words source why start second is fault defined)
    one_run words source start first second (is_run command is stmts script contents are e) defined =
        let other = run_of_script words source start second command stmts is script defined in
        e ∙ ap (λ c. run_from c 1 [] stmts) (one_content start contents other.0 are other.1) ∙ sym other.2

-- a command has statements, or its source has a fault
abbrev HasScriptOrNot : List (List ℕ) → List ℕ → Command → Type 0
HasScriptOrNot words source command = ((stmts : List Stmt) × IsScriptOf command source stmts) ⊎ (IsRun words × (why : Fault) × IsScriptFault source why)

module _
    (command_or_none : (words : List (List ℕ)) → ((command : Command) × IsCommand words command) ⊎ IsNoCommand words)
    (script_or_fault : (source : List ℕ) → IsScriptOrNot source)
    (some_content : (start : Folder) → (contents : Contents) × AreContents start contents)
  where
    -- each command is one of these two
    script_of : (words : List (List ℕ)) (source : List ℕ) (command : Command) → IsCommand words command → HasScriptOrNot words source command
    script_of words source (commands.Run workers) is = by (script_or_fault source)
      where
        by : IsScriptOrNot source → HasScriptOrNot words source (commands.Run workers)
        by (inl script) = inl script
        by (inr (why, fault)) = inr ((workers, is), why, fault)
    script_of words source (commands.At file day) is = inl (at_script file day, refl)
    script_of words source (commands.Load rows workers) is = inl (load_script rows, refl)

    -- any words, any source and any files have a run
    pub some_run : (words : List (List ℕ)) (source : List ℕ) (start : Folder) → (run : Run) × IsDefinedRun words source start run
    some_run words source start = by (command_or_none words)
      where
        of_command : (command : Command) → IsCommand words command → HasScriptOrNot words source command → (run : Run) × IsDefinedRun words source start run
        of_command command is (inl (stmts, script)) =
            let held = some_content start in (run_from held.0 1 [] stmts, is_run command is stmts script held.0 held.1 refl)
        of_command command is (inr (run, why, fault)) = (refused why, no_script run why fault refl)

        by : ((command : Command) × IsCommand words command) ⊎ IsNoCommand words → (run : Run) × IsDefinedRun words source start run
        by (inl (command, is)) = of_command command is (script_of words source command is)
        by (inr none) = (refused faults.Words, no_command none refl)
