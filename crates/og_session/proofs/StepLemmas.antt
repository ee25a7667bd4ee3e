-- How one statement ends.
use Rattle.std.proofs.Common.{◌≡◌, ℕ, List, [], true, Option, Ok, Err, length, refl, sym, ap, subst}
use Rattle.std.specs.Bool.{⊤}
use Rattle.std.specs.Io.KnownBytes.{Appends}
use Rattle.std.proofs.KnownBytes.{Appends-nil}
use Rattle.std.proofs.lemmas.List.{append-nil}
use Rattle.og_io.specs.declared.sink.PutRefusal.{PutRefusal}
use Rattle.og_io.specs.declared.sink.PutRefusal.TheVariants as puts
use Rattle.og_syntax.specs.declared.tree.Stmt.{Stmt}
use Rattle.og_syntax.specs.declared.tree.Stmt.TheVariants as s
use Rattle.og_query.specs.Fits.{Known, schemas_of, tables_of}
use Rattle.og_query.specs.declared.typed.Typed.{Typed}
use Rattle.og_query.specs.declared.typed.Typed.TheVariants as t
use Rattle.og_check.specs.Statements.{checked}
use Rattle.og_check.specs.Cores.{query_of}
use Rattle.og_check.specs.Expressions.{where_of}
use Rattle.og_value.specs.Limits.{max_columns}
use Rattle.og_check.specs.Statements as spec
use Rattle.og_check.specs.Steps.{Checked, ◌>>=◌, ◌>>◌, on_each, pure, within, is_fault}
use Rattle.og_check.specs.declared.refusal.CheckRefusal.{CheckRefusal}
use Rattle.og_check.specs.declared.refusal.CheckRefusal.TheVariants as checks
use Rattle.og_db.specs.Effects.{Effect, on_names}
use Rattle.og_db.specs.Runs.{known_after, stored}
use Rattle.og_db.specs.Statements.{IsOfNames}
use Rattle.og_io.specs.Folders.{Folder}
use Rattle.og_faults.specs.Refusals.{by_checks}
use Rattle.og_faults.specs.Stops.{stop_of_check, stop_of_put}
use Rattle.og_faults.specs.declared.stop.Stop.TheVariants as stops
use Rattle.og_script.specs.LiveTexts.{IsLiveStmt}
use Rattle.og_output.specs.Puts.{IsPut}
use Rattle.og_session.specs.Contents.{Contents, effect_of, outcome, outcome_of}
use Rattle.og_session.specs.Ends.{IsLeft, StepEnds, piece_or_line}
use Rattle.og_session.specs.Lives.{IsLiveTyped}
use Rattle.og_session.specs.Names.{Watched}
use Rattle.og_session.specs.Headline.{IsStateOf}
use Rattle.og_session.specs.Output.{piece_of}
use Rattle.og_session.proofs.LiveChecks.{live_query}

module _ (start : Folder) (n : ℕ) (before : List Effect) where
  -- a statement that was refused by its checks
  pub check-stopped : (contents : Contents) (stmt : Stmt) (held : Watched) (folder : Option Folder) (old : Option (List ℕ)) (refusal : CheckRefusal) → IsLeft start before held folder
      → (is_fault refusal ≡ true → checked (known_after before) stmt ≡ Err refusal)
      → (text : List ℕ) × Appends old old text × StepEnds start n before (outcome contents before stmt) held folder text (Err (stop_of_check n refusal))
  check-stopped contents stmt held folder old refusal state bad = ([], Appends-nil old, by refusal bad)
    where
      refused : (r : CheckRefusal) → checked (known_after before) stmt ≡ Err r → outcome contents before stmt ≡ Err (by_checks r)
      refused r e = ap (outcome_of contents before) e

      by : (r : CheckRefusal) → (is_fault r ≡ true → checked (known_after before) stmt ≡ Err r) → StepEnds start n before (outcome contents before stmt) held folder [] (Err (stop_of_check n r))
      by (checks.NoSuchName name) bad = (by_checks (checks.NoSuchName name), refused (checks.NoSuchName name) (bad refl), refl, state, refl)
      by (checks.NameTaken name) bad = (by_checks (checks.NameTaken name), refused (checks.NameTaken name) (bad refl), refl, state, refl)
      by (checks.NoSuchColumn name) bad = (by_checks (checks.NoSuchColumn name), refused (checks.NoSuchColumn name) (bad refl), refl, state, refl)
      by (checks.AmbiguousColumn name) bad = (by_checks (checks.AmbiguousColumn name), refused (checks.AmbiguousColumn name) (bad refl), refl, state, refl)
      by (checks.KindsDiffer found wanted) bad = (by_checks (checks.KindsDiffer found wanted), refused (checks.KindsDiffer found wanted) (bad refl), refl, state, refl)
      by (checks.CountsDiffer found wanted) bad = (by_checks (checks.CountsDiffer found wanted), refused (checks.CountsDiffer found wanted) (bad refl), refl, state, refl)
      by (checks.TooMany found limit) bad = (by_checks (checks.TooMany found limit), refused (checks.TooMany found limit) (bad refl), refl, state, refl)
      by checks.NoMemory bad = (state, (piece_or_line n before (outcome contents before stmt), refl))

  -- a piece that was refused
  pub put-stopped : (e : Effect) (held : Watched) (folder : Option Folder) (old new : Option (List ℕ)) (refusal : PutRefusal) → IsLeft start before held folder → IsPut old new (piece_of before e) (Err refusal)
      → (text : List ℕ) × Appends old new text × StepEnds start n before (Ok e) held folder text (Err (stop_of_put refusal))
  put-stopped e held folder old new puts.Failed state ((front, prefix, appended), some) = (front, appended, (state, prefix, some))
  put-stopped e held folder old new puts.NoMemory state (front, prefix, appended) = (front, appended, (state, prefix))

  -- a statement for which memory ran out after its piece
  pub execute-stopped : (e : Effect) (held new_held : Watched) (folder : Option Folder) (old new : Option (List ℕ)) → IsLeft start before held folder → stored new_held.names ≡ stored held.names → Appends old new (piece_of before e)
      → (text : List ℕ) × Appends old new text × StepEnds start n before (Ok e) new_held folder text (Err stops.NoMemory)
  execute-stopped e held new_held folder old new state same appended =
      (piece_of before e, appended, (subst (λ d. IsStateOf start before d folder) (sym same) state, ([], sym (append-nil (piece_of before e)))))

  -- a statement of names alone does what it says
  pub effect-names : (contents : Contents) (typed : Typed) (of : IsOfNames typed) → effect_of contents before typed ≡ Ok (on_names (typed, of))
  effect-names contents (t.Create name columns) of = refl
  effect-names contents (t.Insert name rows) of = refl
  effect-names contents (t.Delete name cond) of = refl
  effect-names contents (t.Update name sets cond) of = refl
  effect-names contents (t.Drop name) of = refl
  effect-names contents t.Tables of = refl
  effect-names contents (t.Keep name query) of = refl
  effect-names contents (t.PrintName name day) of = refl
  effect-names contents (t.PrintQuery query day) of = refl
  effect-names contents (t.Explain query) of = refl
  effect-names contents (t.Save name file) of = absurd of
  effect-names contents (t.OpenFile name file) of = absurd of
  effect-names contents (t.ImportFile name file) of = absurd of
  effect-names contents (t.Valid name day) of = refl
  effect-names contents (t.Live name query) of = refl

-- a statement that is none of files acts on names alone
pub of_names : (typed : Typed) → ((name file : List ℕ) → ¬ (typed ≡ t.Save name file)) → ((name file : List ℕ) → ¬ (typed ≡ t.OpenFile name file))
    → ((name file : List ℕ) → ¬ (typed ≡ t.ImportFile name file)) → IsOfNames typed
of_names (t.Create name columns) saves opens imports = tt
of_names (t.Insert name rows) saves opens imports = tt
of_names (t.Delete name cond) saves opens imports = tt
of_names (t.Update name sets cond) saves opens imports = tt
of_names (t.Drop name) saves opens imports = tt
of_names t.Tables saves opens imports = tt
of_names (t.Keep name query) saves opens imports = tt
of_names (t.PrintName name day) saves opens imports = tt
of_names (t.PrintQuery query day) saves opens imports = tt
of_names (t.Explain query) saves opens imports = tt
of_names (t.Save name file) saves opens imports = absurd (saves name file refl)
of_names (t.OpenFile name file) saves opens imports = absurd (opens name file refl)
of_names (t.ImportFile name file) saves opens imports = absurd (imports name file refl)
of_names (t.Valid name day) saves opens imports = tt
of_names (t.Live name query) saves opens imports = tt

-- the query of what was checked, where it is a LIVE, is one of a live result
abbrev IsLiveChecked : Checked Typed → Type 0
IsLiveChecked (Ok typed) = IsLiveTyped typed
IsLiveChecked (Err fault) = ⊤

-- a check before others
check_first : {A : Type 0} (p : Checked A) (f : A → Checked Typed) → ((x : A) → IsLiveChecked (f x)) → IsLiveChecked (p >>= f)
check_first (Ok x) f all = all x
check_first (Err fault) f all = tt

check_known : {A : Type 0} (p : Checked A) (f : A → Checked Typed) → ((x : A) → p ≡ Ok x → IsLiveChecked (f x)) → IsLiveChecked (p >>= f)
check_known (Ok x) f all = all x refl
check_known (Err fault) f all = tt

-- a statement whose query, where it is a LIVE, is one of a live result, is checked to such a one
pub typed_live : (known : Known) (stmt : Stmt) (typed : Typed) → IsLiveStmt stmt → checked known stmt ≡ Ok typed → IsLiveTyped typed
typed_live known stmt typed live good = subst IsLiveChecked good (all stmt live)
  where
    all : (stmt : Stmt) → IsLiveStmt stmt → IsLiveChecked (checked known stmt)
    all (s.Create name columns) live =
        check_first (spec.new_name known name) (λ _. do within max_columns (length columns); xs ← spec.new_columns columns; pure (t.Create name xs)) (λ _.
        check_first (within max_columns (length columns)) (λ _. do xs ← spec.new_columns columns; pure (t.Create name xs)) (λ _.
        check_first (spec.new_columns columns) (λ xs. pure (t.Create name xs)) (λ xs. tt)))
    all (s.Insert name rows) live =
        check_first (spec.table_columns known name) (λ columns. do on_each (spec.tuple_of columns) rows; pure (t.Insert name rows)) (λ columns.
        check_first (on_each (spec.tuple_of columns) rows) (λ _. pure (t.Insert name rows)) (λ _. tt))
    all (s.Delete name cond) live =
        check_first (spec.table_columns known name) (λ columns. do x ← where_of (spec.sees_table name columns) cond; pure (t.Delete name x)) (λ columns.
        check_first (where_of (spec.sees_table name columns) cond) (λ x. pure (t.Delete name x)) (λ x. tt))
    all (s.Update name sets cond) live =
        check_first (spec.table_columns known name)
        (λ columns. do xs ← spec.sets_of (spec.sees_table name columns) sets; x ← where_of (spec.sees_table name columns) cond; pure (t.Update name xs x)) (λ columns.
        check_first (spec.sets_of (spec.sees_table name columns) sets) (λ xs. do x ← where_of (spec.sees_table name columns) cond; pure (t.Update name xs x)) (λ xs.
        check_first (where_of (spec.sees_table name columns) cond) (λ x. pure (t.Update name xs x)) (λ x. tt)))
    all (s.Drop name) live = check_first (spec.named_columns known name) (λ _. pure (t.Drop name)) (λ _. tt)
    all s.Tables live = tt
    all (s.Keep name query) live =
        check_first (spec.new_name known name) (λ _. do q ← query_of (schemas_of known) query; pure (t.Keep name q)) (λ _.
        check_first (query_of (schemas_of known) query) (λ q. pure (t.Keep name q)) (λ q. tt))
    all (s.PrintName name day) live = check_first (spec.named_columns known name) (λ _. pure (t.PrintName name day)) (λ _. tt)
    all (s.PrintQuery query day) live = check_first (query_of (schemas_of known) query) (λ q. pure (t.PrintQuery q day)) (λ q. tt)
    all (s.Save name file) live = check_first (spec.named_columns known name) (λ _. pure (t.Save name file)) (λ _. tt)
    all (s.OpenFile name file) live = check_first (spec.new_name known name) (λ _. pure (t.OpenFile name file)) (λ _. tt)
    all (s.ImportFile name file) live = check_first (spec.table_columns known name) (λ _. pure (t.ImportFile name file)) (λ _. tt)
    all (s.Explain query) live = check_first (query_of (schemas_of known) query) (λ q. pure (t.Explain q)) (λ q. tt)
    all (s.Valid name day) live = check_first (spec.named_columns known name) (λ _. pure (t.Valid name day)) (λ _. tt)
    all (s.Live name query) live =
        check_first (spec.new_name known name) (λ _. do q ← query_of (tables_of known) query; pure (t.Live name q)) (λ _.
        check_known (query_of (tables_of known) query) (λ q. pure (t.Live name q)) (λ q is. live_query (tables_of known) query q live is))
