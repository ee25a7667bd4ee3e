-- The clauses of the headline, from how the run ends.
use Rattle.std.proofs.Common.{◌≡◌, ◌++◌, ◌+◌, ◌⊎◌, ◌≤◌, inl, inr, ℕ, Bool, true, false, List, [], ◌∷◌, Some, OnOk, Result, Ok, Err, refl, sym, ap, ◌∙◌, subst, arith}
use Rattle.std.specs.List.{Contains}
use Rattle.std.specs.Io.KnownBytes.{Appends}
use Rattle.std.proofs.lemmas.List.{append-nil, append_assoc}
use Rattle.og_base.specs.Told.{IsPrefix, Rose}
use Rattle.og_base.proofs.SetLemmas.{Contains-cons_cases}
use Rattle.og_io.specs.Folders.{Folder}
use Rattle.og_io.specs.Sources.{TakesAtMost, max_part}
use Rattle.og_db.specs.Effects.{Effect}
use Rattle.og_faults.specs.Counts.{IsAbsenceCount, IsFaultCount, is_file_fault, is_read_fault, is_write_fault}
use Rattle.og_faults.specs.Faults.{fault_status, line_of, status_of}
use Rattle.og_faults.specs.declared.fault.Fault.{Fault}
use Rattle.og_faults.specs.declared.fault.Fault.TheVariants as faults
use Rattle.og_faults.specs.declared.stop.Stop.{Stop}
use Rattle.og_faults.specs.declared.stop.Stop.TheVariants as stops
use Rattle.og_script.specs.Scripts.{max_source}
use Rattle.og_session.specs.Ends.{Ends, EndsWith, IsEndOf, IsWhole, RunAsks}
use Rattle.og_session.specs.Asked.{asked, count_after}
use Rattle.og_session.specs.Headline.{AreTold, AreUnfailed, Call, HasCause, HasGrown, HasReads, HasState, HasStatus, HasStop, Headline, IsAsDefined, IsCause, IsComplete, IsCounted, IsCut, IsDefined, IsOneOf, IsOutput, IsStateOf, IsStop, IsStopped, IsTold, next_piece}
use Rattle.og_session.specs.Output.{piece_of, output_from}
use Rattle.og_session.specs.Runs.{Run, IsDefinedRun, IsRun, output}
use Rattle.og_session.proofs.EndLemmas.{unmissed}
use Rattle.og_session.proofs.StopLemmas.{one_of_three}
use Rattle.og_session.proofs.RunLemmas.{output_from-append}

-- ---- fronts

-- all of the output is a front of it
whole_front : (text whole : List ℕ) → text ≡ whole → IsPrefix text whole
whole_front text whole e = ([], sym e ∙ sym (append-nil text))

-- what comes next is a front of all that is left
next_front : (before after : List Effect) (line : List ℕ) → IsPrefix (next_piece before after line) (output_from before after ++ line)
next_front before [] line = ([], sym (append-nil line))
next_front before (e ∷ es) line = (output_from (before ++ e ∷ []) es ++ line, append_assoc (piece_of before e) (output_from (before ++ e ∷ []) es) line)

-- what was written of a run that was cut short is a front of its output
cut_front : (run : Run) (text : List ℕ) → IsCut run text → IsPrefix text (output run)
cut_front run text cut =
    let next = next_front cut.before cut.after (line_of run.end) in
    let rest = cut.begun.0 ++ next.0 in
    let left : output_from cut.before cut.after ++ line_of run.end ≡ cut.front ++ rest = next.1 ∙ ap (λ t. t ++ next.0) cut.begun.1 ∙ append_assoc cut.front cut.begun.0 next.0 in (
      rest,
      ap (λ l. output_from [] l ++ line_of run.end) cut.parts
          ∙ ap (λ t. t ++ line_of run.end) (output_from-append [] cut.before cut.after)
          ∙ append_assoc (output_from [] cut.before) (output_from cut.before cut.after) (line_of run.end)
          ∙ ap (λ t. output_from [] cut.before ++ t) left
          ∙ sym (append_assoc (output_from [] cut.before) cut.front rest)
          ∙ ap (λ t. t ++ rest) (sym cut.written),
    )

-- ---- statuses

-- no fault has the status of a device or of memory
fault_small : (fault : Fault) → fault_status fault ≤ 5
fault_small faults.Words = omega arith
fault_small faults.SourceTooLong = omega arith
fault_small (faults.BadByte n) = omega arith
fault_small (faults.OpenText n) = omega arith
fault_small (faults.NumberRange n) = omega arith
fault_small (faults.Syntax n) = omega arith
fault_small (faults.TooDeep n) = omega arith
fault_small (faults.Literal n) = omega arith
fault_small (faults.Check n refusal) = omega arith
fault_small (faults.NoFile n file) = omega arith
fault_small (faults.Header n) = omega arith
fault_small (faults.Record n number) = omega arith
fault_small (faults.RowCount n said found) = omega arith

-- no fault has the status of a run without one
fault_some : (f : Fault) → fault_status f ≡ 0 → ⊥
fault_some faults.Words z = omega (arith, z)
fault_some faults.SourceTooLong z = omega (arith, z)
fault_some (faults.BadByte n) z = omega (arith, z)
fault_some (faults.OpenText n) z = omega (arith, z)
fault_some (faults.NumberRange n) z = omega (arith, z)
fault_some (faults.Syntax n) z = omega (arith, z)
fault_some (faults.TooDeep n) z = omega (arith, z)
fault_some (faults.Literal n) z = omega (arith, z)
fault_some (faults.Check n refusal) z = omega (arith, z)
fault_some (faults.NoFile n file) z = omega (arith, z)
fault_some (faults.Header n) z = omega (arith, z)
fault_some (faults.Record n number) z = omega (arith, z)
fault_some (faults.RowCount n said found) z = omega (arith, z)

-- and each has one of four
fault_answer : (fault : Fault) → Contains (0 ∷ 2 ∷ 3 ∷ 4 ∷ 5 ∷ 6 ∷ 7 ∷ 8 ∷ 9 ∷ []) (fault_status fault)
fault_answer faults.Words = (1, omega arith, refl)
fault_answer faults.SourceTooLong = (2, omega arith, refl)
fault_answer (faults.BadByte n) = (2, omega arith, refl)
fault_answer (faults.OpenText n) = (2, omega arith, refl)
fault_answer (faults.NumberRange n) = (2, omega arith, refl)
fault_answer (faults.Syntax n) = (2, omega arith, refl)
fault_answer (faults.TooDeep n) = (2, omega arith, refl)
fault_answer (faults.Literal n) = (2, omega arith, refl)
fault_answer (faults.Check n refusal) = (3, omega arith, refl)
fault_answer (faults.NoFile n file) = (4, omega arith, refl)
fault_answer (faults.Header n) = (4, omega arith, refl)
fault_answer (faults.Record n number) = (4, omega arith, refl)
fault_answer (faults.RowCount n said found) = (4, omega arith, refl)

-- a status of a device or of memory is greater
big : (n : ℕ) → Contains (6 ∷ 7 ∷ 8 ∷ 9 ∷ []) n → n ≤ 5 → ⊥
big n h small = by_six (Contains-cons_cases 6 n (7 ∷ 8 ∷ 9 ∷ []) h)
  where
    by_six : (6 ≡ n) ⊎ Contains (7 ∷ 8 ∷ 9 ∷ []) n → ⊥
    by_six (inl e) = omega (arith, e, small)
    by_six (inr h) = by_three (one_of_three 7 8 9 n h)
      where
        by_three : (7 ≡ n) ⊎ ((8 ≡ n) ⊎ (9 ≡ n)) → ⊥
        by_three (inl e) = omega (arith, e, small)
        by_three (inr (inl e)) = omega (arith, e, small)
        by_three (inr (inr e)) = omega (arith, e, small)

-- ---- the clauses

module _ (call : Call) (end : Result (Unit {0}) Stop) (is : call.status ≡ status_of end) where
  -- the run ended with one of these statuses
  one_of : (statuses : List ℕ) → EndsWith statuses end → IsOneOf call statuses
  one_of statuses h = subst (Contains statuses) (sym is) h

  module _ (run : Run) (start : Folder) (text : List ℕ) where
    -- the status is that of the run, or it was stopped
    ended : Ends run start call.db call.folder_after text end → IsStopped call ⊎ ((status_of run.end ≡ call.status) × (text ≡ output run) × IsStateOf start run.done call.db call.folder_after)
    ended = by end is
      where
        whole : (r : Result (Unit {0}) Stop) → call.status ≡ status_of r → IsWhole run start call.db call.folder_after text r → (status_of run.end ≡ call.status) × (text ≡ output run) × IsStateOf start run.done call.db call.folder_after
        whole r e h = (ap status_of h.ended ∙ sym e, h.written, h.state)

        by : (r : Result (Unit {0}) Stop) → call.status ≡ status_of r → Ends run start call.db call.folder_after text r
            → IsStopped call ⊎ ((status_of run.end ≡ call.status) × (text ≡ output run) × IsStateOf start run.done call.db call.folder_after)
        by (Ok done) e h = inr (whole (Ok tt) e h)
        by (Err (stops.Fault fault)) e h = inr (whole (Err (stops.Fault fault)) e h)
        by (Err stops.ReadFault) e h = inl (subst (Contains (6 ∷ 7 ∷ 8 ∷ 9 ∷ [])) (sym e) (0, omega arith, refl))
        by (Err stops.FileFault) e h = inl (subst (Contains (6 ∷ 7 ∷ 8 ∷ 9 ∷ [])) (sym e) (1, omega arith, refl))
        by (Err stops.WriteFault) e h = inl (subst (Contains (6 ∷ 7 ∷ 8 ∷ 9 ∷ [])) (sym e) (2, omega arith, refl))
        by (Err stops.NoMemory) e h = inl (subst (Contains (6 ∷ 7 ∷ 8 ∷ 9 ∷ [])) (sym e) (3, omega arith, refl))

    -- what was written is a front of the output
    front : Ends run start call.db call.folder_after text end → IsPrefix text (output run)
    front = by end
      where
        by : (r : Result (Unit {0}) Stop) → Ends run start call.db call.folder_after text r → IsPrefix text (output run)
        by (Ok done) h = whole_front text (output run) h.written
        by (Err (stops.Fault fault)) h = whole_front text (output run) h.written
        by (Err stops.ReadFault) h = subst (λ t. IsPrefix t (output run)) (sym h) (output run, refl)
        by (Err stops.FileFault) h = cut_front run text h.cut
        by (Err stops.WriteFault) h = cut_front run text h.short.cut
        by (Err stops.NoMemory) h = cut_front run text h.cut

    -- and all of it, or nothing, unless the run was stopped
    all_or_none : (source : List ℕ) → IsDefined call source start run → Ends run start call.db call.folder_after text end
        → IsOneOf call (7 ∷ 8 ∷ 9 ∷ []) ⊎ ((call.status ≡ 6) × (text ≡ []) ⊎ ((run : Run) × IsDefined call source start run × (status_of run.end ≡ call.status) × (text ≡ output run)))
    all_or_none source defined = by end is
      where
        by : (r : Result (Unit {0}) Stop) → call.status ≡ status_of r → Ends run start call.db call.folder_after text r
            → IsOneOf call (7 ∷ 8 ∷ 9 ∷ []) ⊎ ((call.status ≡ 6) × (text ≡ []) ⊎ ((run : Run) × IsDefined call source start run × (status_of run.end ≡ call.status) × (text ≡ output run)))
        by (Ok done) e h = inr (inr (run, defined, ap status_of h.ended ∙ sym e, h.written))
        by (Err (stops.Fault fault)) e h = inr (inr (run, defined, ap status_of h.ended ∙ sym e, h.written))
        by (Err stops.ReadFault) e h = inr (inl (e, h))
        by (Err stops.FileFault) e h = inl (subst (Contains (7 ∷ 8 ∷ 9 ∷ [])) (sym e) (0, omega arith, refl))
        by (Err stops.WriteFault) e h = inl (subst (Contains (7 ∷ 8 ∷ 9 ∷ [])) (sym e) (1, omega arith, refl))
        by (Err stops.NoMemory) e h = inl (subst (Contains (7 ∷ 8 ∷ 9 ∷ [])) (sym e) (2, omega arith, refl))

    -- how it was stopped
    stopped : Appends call.written call.written_after text → Ends run start call.db call.folder_after text end → IsStop call start text run
    stopped appended = by end is
      where
        small : (n : ℕ) → call.status ≡ n → n ≤ 6 → IsStop call start text run
        small n e few = record { appended = appended; no_memory = λ s. absurd (omega (arith, s, e, few)); unwritten = λ s. absurd (omega (arith, s, e, few)); no_file = λ s. absurd (omega (arith, s, e, few)) }

        by : (r : Result (Unit {0}) Stop) → call.status ≡ status_of r → Ends run start call.db call.folder_after text r → IsStop call start text run
        by (Ok done) e h = small 0 e (omega arith)
        by (Err (stops.Fault fault)) e h = small (fault_status fault) e (omega (arith, fault_small fault))
        by (Err stops.ReadFault) e h = small 6 e (omega arith)
        by (Err stops.FileFault) e h = record { appended = appended; no_memory = λ s. absurd (omega (arith, s, e)); unwritten = λ s. absurd (omega (arith, s, e)); no_file = λ s. h }
        by (Err stops.WriteFault) e h = record { appended = appended; no_memory = λ s. absurd (omega (arith, s, e)); unwritten = λ s. h; no_file = λ s. absurd (omega (arith, s, e)) }
        by (Err stops.NoMemory) e h = record { appended = appended; no_memory = λ s. h; unwritten = λ s. absurd (omega (arith, s, e)); no_file = λ s. absurd (omega (arith, s, e)) }

    -- a file that was not there was counted
    absent : Ends run start call.db call.folder_after text end → IsAbsenceCount end call.absences call.absences_after → (n : ℕ) (file : List ℕ) → run.end ≡ Err (stops.Fault (faults.NoFile n file)) → call.status ≡ 5 → Rose call.absences call.absences_after
    absent = by end is
      where
        by : (r : Result (Unit {0}) Stop) → call.status ≡ status_of r → Ends run start call.db call.folder_after text r → IsAbsenceCount r call.absences call.absences_after
            → (n : ℕ) (file : List ℕ) → run.end ≡ Err (stops.Fault (faults.NoFile n file)) → call.status ≡ 5 → Rose call.absences call.absences_after
        by (Ok done) e h k n file none five = absurd (omega (arith, e, five))
        by (Err (stops.Fault fault)) e h k n file none five = (subst (λ (r : Result (Unit {0}) Stop). IsAbsenceCount r call.absences call.absences_after) (sym h.ended ∙ none) k).1
        by (Err stops.ReadFault) e h k n file none five = absurd (omega (arith, e, five))
        by (Err stops.FileFault) e h k n file none five = absurd (omega (arith, e, five))
        by (Err stops.WriteFault) e h k n file none five = absurd (omega (arith, e, five))
        by (Err stops.NoMemory) e h k n file none five = absurd (omega (arith, e, five))

  -- the status is one of nine
  answers : IsOneOf call (0 ∷ 2 ∷ 3 ∷ 4 ∷ 5 ∷ 6 ∷ 7 ∷ 8 ∷ 9 ∷ [])
  answers = one_of (0 ∷ 2 ∷ 3 ∷ 4 ∷ 5 ∷ 6 ∷ 7 ∷ 8 ∷ 9 ∷ []) (by end)
    where
      by : (r : Result (Unit {0}) Stop) → EndsWith (0 ∷ 2 ∷ 3 ∷ 4 ∷ 5 ∷ 6 ∷ 7 ∷ 8 ∷ 9 ∷ []) r
      by (Ok done) = (0, omega arith, refl)
      by (Err (stops.Fault fault)) = fault_answer fault
      by (Err stops.ReadFault) = (5, omega arith, refl)
      by (Err stops.FileFault) = (6, omega arith, refl)
      by (Err stops.WriteFault) = (7, omega arith, refl)
      by (Err stops.NoMemory) = (8, omega arith, refl)

  -- a status of a device comes where its count rose, and wherever it went up
  caused : (n : ℕ) (b : Bool) (old new : ℕ) → (b ≡ true → status_of end ≡ n) → (status_of end ≡ n → b ≡ true) → IsFaultCount b old new → IsCause n old new call
  caused n true old new to from counted = record { cause = λ e. counted.1; told = λ up. is ∙ to refl; kept = counted.0 }
  caused n false old new to from counted = record { cause = λ e. cc (from (sym is ∙ e)); told = λ up. absurd (omega (arith, up, counted)); kept = omega (arith, counted) }

  -- each device has a status of its own
  read_is : (is_read_fault end ≡ true → status_of end ≡ 6) × (status_of end ≡ 6 → is_read_fault end ≡ true)
  read_is = by end
    where
      by : (r : Result (Unit {0}) Stop) → (is_read_fault r ≡ true → status_of r ≡ 6) × (status_of r ≡ 6 → is_read_fault r ≡ true)
      by (Ok done) = (λ e. cc e, λ e. absurd (omega (arith, e)))
      by (Err (stops.Fault fault)) = (λ e. cc e, λ e. absurd (omega (arith, e, fault_small fault)))
      by (Err stops.ReadFault) = (λ e. refl, λ e. refl)
      by (Err stops.FileFault) = (λ e. cc e, λ e. absurd (omega (arith, e)))
      by (Err stops.WriteFault) = (λ e. cc e, λ e. absurd (omega (arith, e)))
      by (Err stops.NoMemory) = (λ e. cc e, λ e. absurd (omega (arith, e)))

  file_is : (is_file_fault end ≡ true → status_of end ≡ 7) × (status_of end ≡ 7 → is_file_fault end ≡ true)
  file_is = by end
    where
      by : (r : Result (Unit {0}) Stop) → (is_file_fault r ≡ true → status_of r ≡ 7) × (status_of r ≡ 7 → is_file_fault r ≡ true)
      by (Ok done) = (λ e. cc e, λ e. absurd (omega (arith, e)))
      by (Err (stops.Fault fault)) = (λ e. cc e, λ e. absurd (omega (arith, e, fault_small fault)))
      by (Err stops.ReadFault) = (λ e. cc e, λ e. absurd (omega (arith, e)))
      by (Err stops.FileFault) = (λ e. refl, λ e. refl)
      by (Err stops.WriteFault) = (λ e. cc e, λ e. absurd (omega (arith, e)))
      by (Err stops.NoMemory) = (λ e. cc e, λ e. absurd (omega (arith, e)))

  write_is : (is_write_fault end ≡ true → status_of end ≡ 8) × (status_of end ≡ 8 → is_write_fault end ≡ true)
  write_is = by end
    where
      by : (r : Result (Unit {0}) Stop) → (is_write_fault r ≡ true → status_of r ≡ 8) × (status_of r ≡ 8 → is_write_fault r ≡ true)
      by (Ok done) = (λ e. cc e, λ e. absurd (omega (arith, e)))
      by (Err (stops.Fault fault)) = (λ e. cc e, λ e. absurd (omega (arith, e, fault_small fault)))
      by (Err stops.ReadFault) = (λ e. cc e, λ e. absurd (omega (arith, e)))
      by (Err stops.FileFault) = (λ e. cc e, λ e. absurd (omega (arith, e)))
      by (Err stops.WriteFault) = (λ e. refl, λ e. refl)
      by (Err stops.NoMemory) = (λ e. cc e, λ e. absurd (omega (arith, e)))

  -- a status of 0 is that of a run of all statements
  drained : (P : Type 0) → OnOk end P → call.status ≡ 0 → P
  drained P = by end is
    where
      by : (r : Result (Unit {0}) Stop) → call.status ≡ status_of r → OnOk r P → call.status ≡ 0 → P
      by (Ok done) e h z = h
      by (Err (stops.Fault fault)) e h z = absurd (fault_some fault (sym e ∙ z))
      by (Err stops.ReadFault) e h z = absurd (omega (arith, e, z))
      by (Err stops.FileFault) e h z = absurd (omega (arith, e, z))
      by (Err stops.WriteFault) e h z = absurd (omega (arith, e, z))
      by (Err stops.NoMemory) e h z = absurd (omega (arith, e, z))

  -- one status is none of the stopped ones where no count rose
  unstopped : AreUnfailed call → IsCause 6 call.read_faults call.read_faults_after call → IsCause 7 call.file_faults call.file_faults_after call → IsCause 8 call.write_faults call.write_faults_after call
      → IsStopped call → call.status ≡ 9
  unstopped none read file write stopped = by end is (subst (Contains (6 ∷ 7 ∷ 8 ∷ 9 ∷ [])) is stopped)
    where
      by : (r : Result (Unit {0}) Stop) → call.status ≡ status_of r → EndsWith (6 ∷ 7 ∷ 8 ∷ 9 ∷ []) r → call.status ≡ 9
      by (Ok done) e h = absurd (big 0 h (omega arith))
      by (Err (stops.Fault fault)) e h = absurd (big (fault_status fault) h (fault_small fault))
      by (Err stops.ReadFault) e h = absurd (none.read (read.cause e))
      by (Err stops.FileFault) e h = absurd (none.file (file.cause e))
      by (Err stops.WriteFault) e h = absurd (none.write (write.cause e))
      by (Err stops.NoMemory) e h = e

  module _
      (one : (words : List (List ℕ)) (source : List ℕ) (start : Folder) (first second : Run) → IsDefinedRun words source start first → IsDefinedRun words source start second → first ≡ second)
      (some : (words : List (List ℕ)) (source : List ℕ) (start : Folder) → (run : Run) × IsDefinedRun words source start run)
      (told : (source : List ℕ) (start : Folder) (run : Run) → IsTold call source → call.folder ≡ Some start → IsDefinedRun call.words source start run
      → (text : List ℕ) × Appends call.written call.written_after text × Ends run start call.db call.folder_after text end)
      (empty : (source : List ℕ) → IsRun call.words → call.left ≡ Some source → OnOk end (call.left_after ≡ Some []))
      (end_is : IsEndOf call.words call.left end)
      (before : EndsWith (2 ∷ 3 ∷ 6 ∷ []) end → (call.db ≡ []) × (call.folder_after ≡ call.folder))
      (reads : IsFaultCount (is_read_fault end) call.read_faults call.read_faults_after)
      (files : IsFaultCount (is_file_fault end) call.file_faults call.file_faults_after)
      (writes : IsFaultCount (is_write_fault end) call.write_faults call.write_faults_after)
      (absences : IsAbsenceCount end call.absences call.absences_after)
      (grown : HasGrown call.written call.written_after)
      (asks : (source : List ℕ) (start : Folder) (run : Run) → IsTold call source → call.folder ≡ Some start → IsDefinedRun call.words source start run
      → RunAsks run start call.db call.folder_after call.file_calls call.file_calls_after end)
      (taken : TakesAtMost (max_source + max_part) call.left call.left_after) where
    -- how the call ended, by its one defined run
    at : (source : List ℕ) (start : Folder) → AreTold call source start → (run : Run) → IsDefined call source start run
        → (text : List ℕ) × Appends call.written call.written_after text × Ends run start call.db call.folder_after text end
    at source start t run defined = told source start run t.source t.files defined

    as_defined : (source : List ℕ) (start : Folder) → AreTold call source start → IsStopped call ⊎ ((run : Run) × IsDefined call source start run × (status_of run.end ≡ call.status) × IsStateOf start run.done call.db call.folder_after)
    as_defined source start t = by (some call.words source start)
      where
        by : (r : (run : Run) × IsDefinedRun call.words source start run) → IsStopped call ⊎ ((run : Run) × IsDefined call source start run × (status_of run.end ≡ call.status) × IsStateOf start run.done call.db call.folder_after)
        by (run, defined) = of (ended run start (at source start t run defined).0 (at source start t run defined).2)
          where
            of : IsStopped call ⊎ ((status_of run.end ≡ call.status) × ((at source start t run defined).0 ≡ output run) × IsStateOf start run.done call.db call.folder_after)
                → IsStopped call ⊎ ((run : Run) × IsDefined call source start run × (status_of run.end ≡ call.status) × IsStateOf start run.done call.db call.folder_after)
            of (inl h) = inl h
            of (inr h) = inr (run, defined, h.0, h.2)

    only_status : (source : List ℕ) (start : Folder) → IsStopped call ⊎ ((run : Run) × IsDefined call source start run × (status_of run.end ≡ call.status) × IsStateOf start run.done call.db call.folder_after)
        → IsStopped call ⊎ IsAsDefined call source start
    only_status source start (inl h) = inl h
    only_status source start (inr h) = inr (h.0, h.1, h.2)

    read_cause : IsCause 6 call.read_faults call.read_faults_after call
    read_cause = caused 6 (is_read_fault end) call.read_faults call.read_faults_after read_is.0 read_is.1 reads

    file_cause : IsCause 7 call.file_faults call.file_faults_after call
    file_cause = caused 7 (is_file_fault end) call.file_faults call.file_faults_after file_is.0 file_is.1 files

    write_cause : IsCause 8 call.write_faults call.write_faults_after call
    write_cause = caused 8 (is_write_fault end) call.write_faults call.write_faults_after write_is.0 write_is.1 writes

    has_status : HasStatus call
    has_status = record {
      defined = λ source start t. only_status source start (as_defined source start t);
      answers = answers;
      drained = λ source run left z. drained (call.left_after ≡ Some []) (empty source run left) z;
      no_command = λ none. one_of (2 ∷ 8 ∷ 9 ∷ []) (end_is.no_command none);
      command = λ e. end_is.command (sym is ∙ e);
      no_script = λ source why run left fault. one_of (3 ∷ 6 ∷ 8 ∷ 9 ∷ []) (end_is.no_script source why run left fault);
      script = λ source t e. end_is.script source t (sym is ∙ e);
    }

    is_output : (source : List ℕ) (start : Folder) → AreTold call source start → (text : List ℕ) × IsOutput call source start text
    is_output source start t =
        let run = some call.words source start in
        let e = at source start t run.0 run.1 in (
          e.0,
          record {
            appended = e.1;
            front = λ other defined. subst (λ r. IsPrefix e.0 (output r)) (one call.words source start run.0 other run.1 defined) (front run.0 start e.0 e.2);
            whole = all_or_none run.0 start e.0 source run.1 e.2;
          },
        )

    has_state : HasState call
    has_state = record {
      state = as_defined;
      no_names = λ h. (before (subst (Contains (2 ∷ 3 ∷ 6 ∷ [])) is h)).0;
      files_stay = λ h. (before (subst (Contains (2 ∷ 3 ∷ 6 ∷ [])) is h)).1;
    }

    has_stop : HasStop call
    has_stop source start t =
        let run = some call.words source start in
        let e = at source start t run.0 run.1 in
        (e.0, λ other defined. subst (IsStop call start e.0) (one call.words source start run.0 other run.1 defined) (stopped run.0 start e.0 e.1 e.2))

    has_cause : HasCause call
    has_cause = record {
      read = read_cause;
      run = λ e. end_is.run (sym is ∙ e);
      file = file_cause;
      write = write_cause;
      absent = λ source start t run defined n file none five. let e = at source start t run defined in absent run start e.0 e.2 absences n file none five;
      absences = unmissed end call.absences call.absences_after absences;
    }

    has_reads : HasReads call
    has_reads = record { source = taken; files = λ source start t run defined. by end is (asks source start run t.source t.files defined) }
      where
        by : {start : Folder} {run : Run} (r : Result (Unit {0}) Stop) → call.status ≡ status_of r → RunAsks run start call.db call.folder_after call.file_calls call.file_calls_after r
            → (counted : IsCounted run start call.db call.folder_after call.file_calls call.file_calls_after) × (IsStopped call ⊎ (counted.after ≡ []))
            × (call.status ≡ 0 → call.file_calls_after ≡ count_after call.file_calls (asked run.done))
        by (Ok done) e h = (h.0, inr h.1, λ z. h.2)
        by (Err (stops.Fault fault)) e h = (h.0, inr h.1, λ z. absurd (fault_some fault (sym e ∙ z)))
        by (Err stops.ReadFault) e h = (h, inl (subst (Contains (6 ∷ 7 ∷ 8 ∷ 9 ∷ [])) (sym e) (0, omega arith, refl)), λ z. absurd (omega (arith, e, z)))
        by (Err stops.FileFault) e h = (h, inl (subst (Contains (6 ∷ 7 ∷ 8 ∷ 9 ∷ [])) (sym e) (1, omega arith, refl)), λ z. absurd (omega (arith, e, z)))
        by (Err stops.WriteFault) e h = (h, inl (subst (Contains (6 ∷ 7 ∷ 8 ∷ 9 ∷ [])) (sym e) (2, omega arith, refl)), λ z. absurd (omega (arith, e, z)))
        by (Err stops.NoMemory) e h = (h, inl (subst (Contains (6 ∷ 7 ∷ 8 ∷ 9 ∷ [])) (sym e) (3, omega arith, refl)), λ z. absurd (omega (arith, e, z)))

    is_complete : IsComplete call
    is_complete source start t none = by (as_defined source start t)
      where
        by : IsStopped call ⊎ ((run : Run) × IsDefined call source start run × (status_of run.end ≡ call.status) × IsStateOf start run.done call.db call.folder_after) → (call.status ≡ 9) ⊎ IsAsDefined call source start
        by (inl h) = inl (unstopped none read_cause file_cause write_cause h)
        by (inr h) = inr (h.0, h.1, h.2)

    -- the headline
    pub headline : Headline call
    headline = record { status = has_status; output = record { grown = grown; text = is_output }; state = has_state; stop = has_stop; cause = has_cause; reads = has_reads; complete = is_complete }
