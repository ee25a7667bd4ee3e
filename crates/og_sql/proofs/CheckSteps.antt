-- How a statement ends that its checks refuse, or that has a value outside PostgreSQL.
use Rattle.std.proofs.Common.{◌≡◌, ℕ, List, true, Some, Result, Ok, Err, refl, ap}
use Rattle.og_syntax.specs.declared.tree.Stmt.{Stmt}
use Rattle.og_query.specs.declared.typed.Typed.{Typed}
use Rattle.og_query.specs.declared.typed.Typed.TheVariants as t
use Rattle.og_check.specs.Statements.{checked}
use Rattle.og_check.specs.Steps.{is_fault}
use Rattle.og_check.specs.declared.refusal.CheckRefusal.{CheckRefusal}
use Rattle.og_check.specs.declared.refusal.CheckRefusal.TheVariants as checks
use Rattle.og_db.specs.Effects.{Effect, on_names}
use Rattle.og_db.specs.Runs.{known_after}
use Rattle.og_db.specs.Statements.{IsOfNames}
use Rattle.og_faults.specs.Refusals.{Refused, by_checks}
use Rattle.og_faults.specs.Stops.{stop_of_check}
use Rattle.og_session.specs.Contents.{Contents, effect_of, outcome, outcome_of, taken}
use Rattle.og_outline.specs.Outlines.{Outlined}
use Rattle.og_sql.specs.Translations.{StepEnds}
use Rattle.og_faults.specs.declared.stop.Stop.TheVariants as stops
use Rattle.og_sql.specs.declared.stop.SqlStop.{SqlStop}
use Rattle.og_sql.specs.declared.stop.SqlStop.TheVariants as sql
use Rattle.og_sql_outside.specs.Outside.{outside_statement}
use Rattle.og_sql_outside.specs.declared.values.Outside.{Outside}

module _ (n : ℕ) (before : List Effect) (contents : Contents) (o : Outlined) (T : Type 0) where
  -- a statement that was refused by its checks
  pub check-stopped : (stmt : Stmt) (refusal : CheckRefusal) → (is_fault refusal ≡ true → checked (known_after before) stmt ≡ Err refusal)
      → StepEnds {T = T} n before (outcome contents before stmt) o (Err (sql.Run (stop_of_check n refusal)))
  check-stopped stmt refusal bad = by refusal bad
    where
      by : (r : CheckRefusal) → (is_fault r ≡ true → checked (known_after before) stmt ≡ Err r) → StepEnds {T = T} n before (outcome contents before stmt) o (Err (sql.Run (stop_of_check n r)))
      by (checks.NoSuchName name) bad = (by_checks (checks.NoSuchName name), ap (outcome_of contents before) (bad refl), refl)
      by (checks.NameTaken name) bad = (by_checks (checks.NameTaken name), ap (outcome_of contents before) (bad refl), refl)
      by (checks.NoSuchColumn name) bad = (by_checks (checks.NoSuchColumn name), ap (outcome_of contents before) (bad refl), refl)
      by (checks.AmbiguousColumn name) bad = (by_checks (checks.AmbiguousColumn name), ap (outcome_of contents before) (bad refl), refl)
      by (checks.KindsDiffer found wanted) bad = (by_checks (checks.KindsDiffer found wanted), ap (outcome_of contents before) (bad refl), refl)
      by (checks.CountsDiffer found wanted) bad = (by_checks (checks.CountsDiffer found wanted), ap (outcome_of contents before) (bad refl), refl)
      by (checks.TooMany found limit) bad = (by_checks (checks.TooMany found limit), ap (outcome_of contents before) (bad refl), refl)
      by checks.NoMemory bad = tt

  -- a statement that has a value outside PostgreSQL acts on names alone
  outside_names : (typed : Typed) (what : Outside) → outside_statement typed ≡ Some what → IsOfNames typed
  outside_names (t.Create name columns) what is = tt
  outside_names (t.Insert name rows) what is = tt
  outside_names (t.Delete name cond) what is = tt
  outside_names (t.Update name sets cond) what is = tt
  outside_names (t.Drop name) what is = tt
  outside_names t.Tables what is = tt
  outside_names (t.Keep name query) what is = tt
  outside_names (t.PrintName name day) what is = tt
  outside_names (t.PrintQuery query day) what is = tt
  outside_names (t.Explain query) what is = tt
  outside_names (t.Valid name day) what is = tt
  outside_names (t.Live name query) what is = tt
  outside_names (t.Save name file) what is = cc is
  outside_names (t.OpenFile name file) what is = cc is
  outside_names (t.ImportFile name file) what is = cc is

  -- so it is refused for it
  pub outside-stopped : (typed : Typed) (what : Outside) → outside_statement typed ≡ Some what
      → ((typed : Typed) (of : IsOfNames typed) → effect_of contents before typed ≡ Ok (on_names (typed, of)))
      → StepEnds {T = T} n before (taken (effect_of contents before typed)) o (Err (sql.Outside n what))
  outside-stopped typed what is names = let of = outside_names typed what is in (on_names (typed, of), ap taken (names typed of), refl, is)

-- an end that is refused says nothing of what would have been given
pub refused-ends : (T U : Type 0) (n : ℕ) (before : List Effect) (r : Result Effect Refused) (o : Outlined) (stop : SqlStop) → StepEnds {T = T} n before r o (Err stop) → StepEnds {T = U} n before r o (Err stop)
refused-ends T U n before r o (sql.Run (stops.Fault fault)) h = h
refused-ends T U n before r o (sql.Run stops.ReadFault) h = h
refused-ends T U n before r o (sql.Run stops.FileFault) h = h
refused-ends T U n before r o (sql.Run stops.WriteFault) h = h
refused-ends T U n before r o (sql.Run stops.NoMemory) h = h
refused-ends T U n before r o (sql.Outside m what) h = h
