-- How a run ends before its statements, after them, and with the line of its fault.
use Rattle.std.proofs.Common.{◌≡◌, ◌++◌, ◌≤◌, ◌⊎◌, inr, ℕ, List, [], ◌∷◌, Option, Some, Result, Ok, Err, refl, sym, ap, ◌∙◌, subst, arith}
use Rattle.std.specs.List.{Contains}
use Rattle.std.specs.Io.KnownBytes.{Appends}
use Rattle.std.proofs.KnownBytes.{Appends-trans}
use Rattle.std.proofs.lemmas.List.{append-nil}
use Rattle.og_base.specs.Told.{IsPrefix}
use Rattle.og_io.specs.Folders.{Folder}
use Rattle.og_io.specs.declared.sink.PutRefusal.{PutRefusal}
use Rattle.og_io.specs.declared.sink.PutRefusal.TheVariants as puts
use Rattle.og_words.specs.Grammar.{IsCommand}
use Rattle.og_words.specs.declared.command.Command.{Command}
use Rattle.og_words.specs.declared.command.Command.TheVariants as commands
use Rattle.og_words.specs.declared.command.WordsRefusal.{WordsRefusal}
use Rattle.og_words.specs.declared.command.WordsRefusal.TheVariants as refusals
use Rattle.og_db.specs.Database.{Relation}
use Rattle.og_db.specs.Held.{Held}
use Rattle.og_faults.specs.Counts.{IsAbsenceCount, IsFaultCount, is_file_fault, is_read_fault, is_write_fault}
use Rattle.og_faults.specs.Faults.{fault_line, fault_status, line_of, status_of}
use Rattle.og_faults.specs.Stops.{stop_of_put, stop_of_words}
use Rattle.og_faults.specs.declared.fault.Fault.{Fault}
use Rattle.og_faults.specs.declared.fault.Fault.TheVariants as faults
use Rattle.og_faults.specs.declared.stop.Stop.{Stop}
use Rattle.og_faults.specs.declared.stop.Stop.TheVariants as stops
use Rattle.og_script.specs.Stops.{IsRunCommand, IsScriptStop, IsStopBefore}
use Rattle.og_script.specs.Scripts.{IsScriptFault}
use Rattle.og_output.specs.Puts.{IsPut}
use Rattle.og_session.specs.Ends.{Ends, EndsUnreported, EndsWith, IsEndOf, RunEnds}
use Rattle.og_session.specs.Headline.{IsCutShort, IsStateOf, next_piece}
use Rattle.og_session.specs.Output.{output_from}
use Rattle.og_session.specs.Runs.{Run, IsNoCommand, IsRun, refused}
use Rattle.og_session.proofs.StopLemmas.{early, one_of_three}

-- ---- before the statements

module _ (run : Run) (start : Folder) (db : List (Held Relation)) (folder : Option Folder) (state : IsStateOf start [] db folder) where
  -- a run that was cut short before its first statement
  pub cut_first : IsCutShort run start db folder []
  cut_first = record { cut = record { before = []; after = run.done; front = []; parts = refl; written = refl; begun = (next_piece [] run.done (line_of run.end), refl) }; state = state }

  -- a run that carries out no statement
  refused_ends : (fault : Fault) → run ≡ refused fault → EndsUnreported run start db folder [] (Err (stops.Fault fault))
  refused_ends fault is = subst (λ r. EndsUnreported r start db folder [] (Err (stops.Fault fault))) (sym is) (record { ended = refl; written = refl; state = state })

  -- words that are no command
  pub words_end : (refusal : WordsRefusal) → (refusal ≡ refusals.NoCommand → run ≡ refused faults.Words) → EndsUnreported run start db folder [] (Err (stop_of_words refusal))
  words_end refusals.NoCommand is = refused_ends faults.Words (is refl)
  words_end refusals.NoMemory is = cut_first

  -- a source that is no script
  pub script_end : (command : Command) (source : List ℕ) (stop : Stop) → IsStopBefore command stop → IsScriptStop source stop
      → ((fault : Fault) → IsRunCommand command → IsScriptFault source fault → run ≡ refused fault) → EndsUnreported run start db folder [] (Err stop)
  script_end command source (stops.Fault fault) before fault' is = refused_ends fault (is fault before.0 fault')
  script_end command source stops.ReadFault before h is = refl
  script_end command source stops.FileFault before h is = absurd before
  script_end command source stops.WriteFault before h is = absurd before
  script_end command source stops.NoMemory before h is = cut_first

-- the command run is what the words are
pub run_words : (words : List (List ℕ)) (command : Command) → IsCommand words command → IsRunCommand command → IsRun words
run_words words (commands.Run workers) is run = (workers, is)
run_words words (commands.At file day) is run = absurd run
run_words words (commands.Load rows workers) is run = absurd run

pub run_command : (words : List (List ℕ)) (command : Command) → ((a b : Command) → IsCommand words a → IsCommand words b → a ≡ b) → IsCommand words command → IsRun words → IsRunCommand command
run_command words command one is (workers, given) = subst IsRunCommand (one (commands.Run workers) command given is) tt

-- ---- what is known of an end whatever is told of the files

-- a status that is stopped by the sink or for memory says nothing of words or script
module _ (words : List (List ℕ)) (left : Option (List ℕ)) where
  pub end_unput : (refusal : PutRefusal) → IsEndOf words left (Err (stop_of_put refusal))
  end_unput puts.Failed = record { no_command = λ no. (1, omega arith, refl); command = λ e. absurd (omega (arith, e)); run = λ e. absurd (omega (arith, e)); no_script = λ source fault is told h. (2, omega arith, refl); script = λ source told e. absurd (omega (arith, e)) }
  end_unput puts.NoMemory = record { no_command = λ no. (2, omega arith, refl); command = λ e. absurd (omega (arith, e)); run = λ e. absurd (omega (arith, e)); no_script = λ source fault is told h. (3, omega arith, refl); script = λ source told e. absurd (omega (arith, e)) }

  pub end_words : (refusal : WordsRefusal) → (refusal ≡ refusals.NoCommand → IsNoCommand words) → IsEndOf words left (Err (stop_of_words refusal))
  end_words refusals.NoCommand none = record { no_command = λ no. (0, omega arith, refl); command = λ e. none refl; run = λ e. absurd (omega (arith, e)); no_script = λ source fault is told h. absurd (none refl (commands.Run is.0) is.1); script = λ source told e. absurd (omega (arith, e)) }
  end_words refusals.NoMemory none = record { no_command = λ no. (2, omega arith, refl); command = λ e. absurd (omega (arith, e)); run = λ e. absurd (omega (arith, e)); no_script = λ source fault is told h. (3, omega arith, refl); script = λ source told e. absurd (omega (arith, e)) }

  module _ (command : Command) (is : IsCommand words command) where
    some_command : {A : Type 0} → IsNoCommand words → A
    some_command none = absurd (none command is)

    pub end_script : (stop : Stop) → IsStopBefore command stop → ((source : List ℕ) → (IsRun words → left ≡ Some source) → IsScriptStop source stop) → IsEndOf words left (Err stop)
    end_script (stops.Fault fault) before h = record {
      no_command = some_command;
      command = λ e. absurd (omega (arith, e, before.1));
      run = λ e. absurd (omega (arith, e, before.1));
      no_script = λ source fault run told f. subst (Contains (3 ∷ 6 ∷ 8 ∷ 9 ∷ [])) (sym before.1) (0, omega arith, refl);
      script = λ source told e. (run_words words command is before.0, fault, h source told);
    }
    end_script stops.ReadFault before h = record {
      no_command = some_command;
      command = λ e. absurd (omega (arith, e));
      run = λ e. run_words words command is before;
      no_script = λ source fault run told f. (1, omega arith, refl);
      script = λ source told e. absurd (omega (arith, e));
    }
    end_script stops.FileFault before h = absurd before
    end_script stops.WriteFault before h = absurd before
    end_script stops.NoMemory before h = record {
      no_command = some_command;
      command = λ e. absurd (omega (arith, e));
      run = λ e. absurd (omega (arith, e));
      no_script = λ source fault run told f. (3, omega arith, refl);
      script = λ source told e. absurd (omega (arith, e));
    }

    -- statements that were run end with none of the statuses before them
    pub end_late : (end : Result (Unit {0}) Stop) → (EndsWith (2 ∷ 3 ∷ 6 ∷ []) end → ⊥) → ((source : List ℕ) (fault : Fault) → IsRun words → left ≡ Some source → IsScriptFault source fault → ⊥) → IsEndOf words left end
    end_late end late none = record {
      no_command = some_command;
      command = λ e. absurd (late (subst (Contains (2 ∷ 3 ∷ 6 ∷ [])) (sym e) (0, omega arith, refl)));
      run = λ e. absurd (late (subst (Contains (2 ∷ 3 ∷ 6 ∷ [])) (sym e) (2, omega arith, refl)));
      no_script = λ source fault run told f. absurd (none source fault run told f);
      script = λ source told e. absurd (late (subst (Contains (2 ∷ 3 ∷ 6 ∷ [])) (sym e) (1, omega arith, refl)));
    }

-- ---- counts before the statements

pub words_counted : (refusal : WordsRefusal) (k : ℕ) → IsFaultCount (is_read_fault {T = Unit {0}} (Err (stop_of_words refusal))) k k × IsFaultCount (is_file_fault {T = Unit {0}} (Err (stop_of_words refusal))) k k
    × IsFaultCount (is_write_fault {T = Unit {0}} (Err (stop_of_words refusal))) k k × IsAbsenceCount {T = Unit {0}} (Err (stop_of_words refusal)) k k
words_counted refusals.NoCommand k = (refl, refl, refl, omega arith)
words_counted refusals.NoMemory k = (refl, refl, refl, omega arith)

-- a fault of the script is no absence
script_unmissed : (fault : Fault) (k : ℕ) → fault_status fault ≡ 3 → IsAbsenceCount {T = Unit {0}} (Err (stops.Fault fault)) k k
script_unmissed faults.Words k e = omega arith
script_unmissed faults.SourceTooLong k e = omega arith
script_unmissed (faults.BadByte n) k e = omega arith
script_unmissed (faults.OpenText n) k e = omega arith
script_unmissed (faults.NumberRange n) k e = omega arith
script_unmissed (faults.Syntax n) k e = omega arith
script_unmissed (faults.TooDeep n) k e = omega arith
script_unmissed (faults.Literal n) k e = omega arith
script_unmissed (faults.Check n refusal) k e = omega arith
script_unmissed (faults.NoFile n file) k e = absurd (omega (arith, e))
script_unmissed (faults.Header n) k e = omega arith
script_unmissed (faults.Record n number) k e = omega arith
script_unmissed (faults.RowCount n said found) k e = omega arith

pub script_counted : (command : Command) (stop : Stop) (k : ℕ) → IsStopBefore command stop
    → IsFaultCount (is_file_fault {T = Unit {0}} (Err stop)) k k × IsFaultCount (is_write_fault {T = Unit {0}} (Err stop)) k k × IsAbsenceCount {T = Unit {0}} (Err stop) k k
script_counted command (stops.Fault fault) k before = (refl, refl, script_unmissed fault k before.1)
script_counted command stops.ReadFault k before = (refl, refl, omega arith)
script_counted command stops.FileFault k before = absurd before
script_counted command stops.WriteFault k before = absurd before
script_counted command stops.NoMemory k before = (refl, refl, omega arith)

-- statements read no source
pub late_read : (end : Result (Unit {0}) Stop) (old new : ℕ) → (EndsWith (2 ∷ 3 ∷ 6 ∷ []) end → ⊥) → new ≡ old → IsFaultCount (is_read_fault end) old new
late_read (Ok done) old new late e = e
late_read (Err (stops.Fault fault)) old new late e = e
late_read (Err stops.ReadFault) old new late e = absurd (late (2, omega arith, refl))
late_read (Err stops.FileFault) old new late e = e
late_read (Err stops.WriteFault) old new late e = e
late_read (Err stops.NoMemory) old new late e = e

-- ---- after the statements

-- statements that were run
pub run_end : (run : Run) (start : Folder) (db : List (Held Relation)) (folder : Option Folder) (text : List ℕ) (end : Result (Unit {0}) Stop) → RunEnds run start db folder text end → EndsUnreported run start db folder text end
run_end run start db folder text (Ok done) h = h
run_end run start db folder text (Err (stops.Fault fault)) h = h
run_end run start db folder text (Err stops.ReadFault) h = absurd h
run_end run start db folder text (Err stops.FileFault) h = h
run_end run start db folder text (Err stops.WriteFault) h = h
run_end run start db folder text (Err stops.NoMemory) h = h

module _ (run : Run) (start : Folder) (db : List (Held Relation)) (folder : Option Folder) where
  -- an end that is no fault has no line
  pub unfaulted : (old new : Option (List ℕ)) (end : Result (Unit {0}) Stop) → ((fault : Fault) → end ≡ Err (stops.Fault fault) → ⊥)
      → (text : List ℕ) × Appends old new text × EndsUnreported run start db folder text end → (text : List ℕ) × Appends old new text × Ends run start db folder text end
  unfaulted old new (Ok done) none (text, appended, h) =
      (text, appended, record { ended = h.ended; written = h.written ∙ sym (ap (λ e. output_from [] run.done ++ line_of e) h.ended ∙ append-nil (output_from [] run.done)); state = h.state })
  unfaulted old new (Err (stops.Fault fault)) none h = absurd (none fault refl)
  unfaulted old new (Err stops.ReadFault) none h = h
  unfaulted old new (Err stops.FileFault) none h = h
  unfaulted old new (Err stops.WriteFault) none h = h
  unfaulted old new (Err stops.NoMemory) none h = h

  module _ (old mid new : Option (List ℕ)) (fault : Fault) (before : (text : List ℕ) × Appends old mid text × EndsUnreported run start db folder text (Err (stops.Fault fault))) where
    -- the line of a fault was written
    pub reported : Appends mid new (fault_line fault) → (text : List ℕ) × Appends old new text × Ends run start db folder text (Err (stops.Fault fault))
    reported line = let (text, appended, h) = before in (
      text ++ fault_line fault,
      Appends-trans old mid new text (fault_line fault) appended line,
      record { ended = h.ended; written = ap (λ t. t ++ fault_line fault) h.written ∙ ap (λ e. output_from [] run.done ++ line_of e) (sym h.ended); state = h.state },
    )

    -- a front of it was written
    cut_line : (front : List ℕ) → IsPrefix front (fault_line fault) → IsCutShort run start db folder (before.0 ++ front)
    cut_line front prefix = let h = before.2 in record {
      cut = record {
        before = run.done;
        after = [];
        front = front;
        parts = sym (append-nil run.done);
        written = ap (λ t. t ++ front) h.written;
        begun = subst (IsPrefix front) (sym (ap line_of h.ended)) prefix;
      };
      state = h.state;
    }

    pub unsaid : (refusal : PutRefusal) → IsPut mid new (fault_line fault) (Err refusal) → (text : List ℕ) × Appends old new text × Ends run start db folder text (Err (stop_of_put refusal))
    unfolding cut_line
    unsaid puts.Failed ((front, prefix, line), some) =
        (before.0 ++ front, Appends-trans old mid new before.0 front before.1 line, record { short = cut_line front prefix; some = λ e. some (sym (ap line_of before.2.ended) ∙ e) })
    unsaid puts.NoMemory (front, prefix, line) = (before.0 ++ front, Appends-trans old mid new before.0 front before.1 line, cut_line front prefix)

-- a count of absences never falls
pub unmissed : (end : Result (Unit {0}) Stop) (old new : ℕ) → IsAbsenceCount end old new → old ≤ new
unmissed (Ok done) old new h = h
unmissed (Err (stops.Fault faults.Words)) old new h = h
unmissed (Err (stops.Fault faults.SourceTooLong)) old new h = h
unmissed (Err (stops.Fault (faults.BadByte n))) old new h = h
unmissed (Err (stops.Fault (faults.OpenText n))) old new h = h
unmissed (Err (stops.Fault (faults.NumberRange n))) old new h = h
unmissed (Err (stops.Fault (faults.Syntax n))) old new h = h
unmissed (Err (stops.Fault (faults.TooDeep n))) old new h = h
unmissed (Err (stops.Fault (faults.Literal n))) old new h = h
unmissed (Err (stops.Fault (faults.Check n refusal))) old new h = h
unmissed (Err (stops.Fault (faults.NoFile n file))) old new h = h.0
unmissed (Err (stops.Fault (faults.Header n))) old new h = h
unmissed (Err (stops.Fault (faults.Record n number))) old new h = h
unmissed (Err (stops.Fault (faults.RowCount n said found))) old new h = h
unmissed (Err stops.ReadFault) old new h = h
unmissed (Err stops.FileFault) old new h = h
unmissed (Err stops.WriteFault) old new h = h
unmissed (Err stops.NoMemory) old new h = h

-- the line could not be written: what the other devices counted stays
pub unsaid_counted : (refusal : PutRefusal) (old new : ℕ) → new ≡ old → IsFaultCount (is_read_fault {T = Unit {0}} (Err (stop_of_put refusal))) old new × IsFaultCount (is_file_fault {T = Unit {0}} (Err (stop_of_put refusal))) old new
unsaid_counted puts.Failed old new e = (e, e)
unsaid_counted puts.NoMemory old new e = (e, e)

pub unsaid_unmissed : (refusal : PutRefusal) (old new : ℕ) → old ≤ new → IsAbsenceCount {T = Unit {0}} (Err (stop_of_put refusal)) old new
unsaid_unmissed puts.Failed old new h = h
unsaid_unmissed puts.NoMemory old new h = h

pub unsaid_late : {A : Type 0} (refusal : PutRefusal) → EndsWith (2 ∷ 3 ∷ 6 ∷ []) (Err (stop_of_put refusal)) → A
unsaid_late {A} refusal h = by refusal (one_of_three 2 3 6 (status_of (Err (stop_of_put refusal))) h)
  where
    by : (r : PutRefusal) → (2 ≡ status_of (Err (stop_of_put r))) ⊎ ((3 ≡ status_of (Err (stop_of_put r))) ⊎ (6 ≡ status_of (Err (stop_of_put r)))) → A
    by puts.Failed h = early 8 (inr (omega arith)) (λ e. omega (arith, e)) h
    by puts.NoMemory h = early 9 (inr (omega arith)) (λ e. omega (arith, e)) h
