-- Live results after any front of what a run carries out.
use Rattle.std.proofs.Common.{◌≡◌, ◌++◌, ◌∙◌, ℕ, suc, ℤ, true, List, [], ◌∷◌, Option, Some, None, Result, Ok, Err, IfOk, map, refl, sym, ap, subst, append_assoc, append-nil}
use Rattle.std.specs.Bool.{⊤}
use Rattle.std.specs.List.{All}
use Rattle.std.proofs.lemmas.List.Elements.{All-nil, All-weaker}
use Rattle.std.proofs.lemmas.List.Sums.{fold-append}
use Rattle.std.proofs.lemmas.Result.{IfOk-at_ok}
use Rattle.og_value.specs.declared.kind.What.TheVariants as what
use Rattle.og_value.specs.declared.schema.Column.{Column}
use Rattle.og_value.specs.declared.value.Value.{Value}
use Rattle.og_syntax.specs.declared.tree.Stmt.{Stmt}
use Rattle.og_query.specs.Fits.{IsFit}
use Rattle.og_query.specs.declared.typed.Typed.{Typed}
use Rattle.og_query.specs.declared.typed.Typed.TheVariants as t
use Rattle.og_check.specs.Statements.{checked}
use Rattle.og_check.specs.Steps.{Checked}
use Rattle.og_check.proofs.StatementFits.{statement_fits}
use Rattle.og_db.specs.Effects.{Effect, on_names, ordinary_statement, sizes_after, world_of_day}
use Rattle.og_db.specs.Held.{Held, found, without}
use Rattle.og_db.specs.Live.{Live, live_after, uses}
use Rattle.og_db.specs.Runs.{known_after, live_of}
use Rattle.og_db.specs.Statements.{named_rows}
use Rattle.og_db.proofs.LiveLemmas.{live_on_day}
use Rattle.og_query.specs.Queries.{ordinary_query}
use Rattle.og_file.specs.SavedFile.{Pair}
use Rattle.og_file.specs.declared.refusal.FileRefusal.{FileRefusal}
use Rattle.og_faults.specs.Refusals.{Refused}
use Rattle.og_io.specs.Folders.{Folder}
use Rattle.og_session.specs.Contents.{Content, Contents, columns_after, effect_of, importing, importing_of, opening, opening_of, outcome, outcome_of, taken}
use Rattle.og_session.specs.LiveResults.{live_result}
use Rattle.og_session.specs.Runs.{IsDefinedRun, Run, after_outcome, is_run, no_command, no_script, run_from}
use Rattle.og_session.proofs.CatalogLemmas.{known_of_day}
use Rattle.og_session.proofs.FollowedNames.{found_is, names-left}
use Rattle.og_session.proofs.LiveWorlds.{AreRight, IsChecked, IsRight, kept_step, right_step}

-- ---- what a run carries out passed its checks

module _ (contents : Contents) (before : List Effect) where
  -- what a statement does that passed them
  typed_checked : (typed : Typed) → IsFit (known_after before) typed → IfOk (taken (effect_of contents before typed)) (IsChecked (known_after before))
  typed_checked (t.Create name columns) fit = fit
  typed_checked (t.Insert name rows) fit = fit
  typed_checked (t.Delete name cond) fit = fit
  typed_checked (t.Update name sets cond) fit = fit
  typed_checked (t.Drop name) fit = fit
  typed_checked t.Tables fit = fit
  typed_checked (t.Keep name query) fit = fit
  typed_checked (t.PrintName name day) fit = fit
  typed_checked (t.PrintQuery query day) fit = fit
  typed_checked (t.Explain query) fit = fit
  typed_checked (t.Valid name day) fit = fit
  typed_checked (t.Live name query) fit = fit
  typed_checked (t.Save name file) fit = tt
  typed_checked (t.OpenFile name file) fit = by (found (sizes_after before).files file) (contents file)
    where
      read : (saved : Result (List Column × List Pair) FileRefusal) → IfOk (taken (opening_of name saved)) (IsChecked (known_after before))
      read (Ok table) = tt
      read (Err fault) = tt

      by : (held : Option (Held ℕ)) (content : Option Content) → IfOk (taken (opening name file held content)) (IsChecked (known_after before))
      by (Some held) content = tt
      by None None = tt
      by None (Some content) = read content.saved
  typed_checked (t.ImportFile name file) fit = by (found (sizes_after before).files file) (contents file)
    where
      read : (rows : Result (List (List Value)) FileRefusal) → IfOk (taken (importing_of name rows)) (IsChecked (known_after before))
      read (Ok rows) = tt
      read (Err fault) = tt

      by : (held : Option (Held ℕ)) (content : Option Content) → IfOk (taken (importing name (columns_after before name) file held content)) (IsChecked (known_after before))
      by (Some held) content = tt
      by None None = tt
      by None (Some content) = read (content.rows (columns_after before name))

  -- what the next statement does
  next_checked : (stmt : Stmt) (effect : Effect) → outcome contents before stmt ≡ Ok effect → IsChecked (known_after before) effect
  next_checked stmt effect is = by (checked (known_after before) stmt) refl is
    where
      by : (end : Checked Typed) → checked (known_after before) stmt ≡ end → outcome_of contents before end ≡ Ok effect → IsChecked (known_after before) effect
      by (Ok typed) passed is = IfOk-at_ok (IsChecked (known_after before)) is (typed_checked typed (statement_fits (known_after before) stmt typed passed))
      by (Err fault) passed is = cc is

-- each, over what is known after those before it
abbrev AreChecked : List Effect → List Effect → Type 0
AreChecked before [] = ⊤
AreChecked before (effect ∷ effects) = IsChecked (known_after before) effect × AreChecked (before ++ effect ∷ []) effects

-- those of statements
run_checked : (contents : Contents) (n : ℕ) (before : List Effect) (stmts : List Stmt)
    → (effects : List Effect) × ((run_from contents n before stmts).done ≡ before ++ effects) × AreChecked before effects
run_checked contents n before [] = ([], sym (append-nil before), tt)
run_checked contents n before (stmt ∷ stmts) = by (outcome contents before stmt) refl (λ effect. run_checked contents (suc n) (before ++ effect ∷ []) stmts)
  where
    by : (end : Result Effect Refused) → outcome contents before stmt ≡ end
        → ((effect : Effect) → (effects : List Effect) × ((run_from contents (suc n) (before ++ effect ∷ []) stmts).done ≡ (before ++ effect ∷ []) ++ effects) × AreChecked (before ++ effect ∷ []) effects)
        → (effects : List Effect) × ((after_outcome n before (λ effect. run_from contents (suc n) (before ++ effect ∷ []) stmts) end).done ≡ before ++ effects) × AreChecked before effects
    by (Ok effect) is rest =
        let more = rest effect in
        (effect ∷ more.0, more.1 ∙ append_assoc before (effect ∷ []) more.0, (next_checked contents before stmt effect is, more.2))
    by (Err refusal) is rest = ([], sym (append-nil before), tt)

-- those of a run
defined_checked : (words : List (List ℕ)) (source : List ℕ) (start : Folder) (run : Run) → IsDefinedRun words source start run → AreChecked [] run.done
defined_checked words source start run (no_command none e) = subst (λ r. AreChecked [] r.done) (sym e) tt
defined_checked words source start run (no_script is why fault e) = subst (λ r. AreChecked [] r.done) (sym e) tt
defined_checked words source start run (is_run command is stmts script contents are e) =
    let all = run_checked contents 1 [] stmts in
    subst (AreChecked []) (sym (ap (λ r. r.done) e ∙ all.1)) all.2

-- ---- the worlds of a day

module _ (d : ℤ) where
  -- one effect more
  next_world : (before : List Effect) (effect : Effect) → world_of_day d (before ++ effect ∷ []) ≡ ordinary_statement d (world_of_day d before) effect
  next_world before effect = fold-append (ordinary_statement d) (record { names = []; files = []; live = [] }) before (effect ∷ [])

  right_steps : (before front rest : List Effect) → AreChecked before (front ++ rest) → AreRight d (world_of_day d before) → AreRight d (world_of_day d (before ++ front))
  right_steps before [] rest checked right = subst (λ effects. AreRight d (world_of_day d effects)) (sym (append-nil before)) right
  right_steps before (effect ∷ front) rest checked right =
      subst (λ effects. AreRight d (world_of_day d effects)) (append_assoc before (effect ∷ []) front)
      (right_steps (before ++ effect ∷ []) front rest checked.1
      (subst (AreRight d) (sym (next_world before effect))
      (right_step d (world_of_day d before) right effect (subst (λ known. IsChecked known effect) (λ i name. sym (known_of_day before d name) i) checked.0))))

  -- a DROP leaves the other names in their order
  pub dropped_order : (before : List Effect) (table : List ℕ)
      → map (λ h. h.name) (world_of_day d (before ++ on_names (t.Drop table, tt) ∷ [])).names ≡ map (λ h. h.name) (without table (world_of_day d before).names)
  dropped_order before table =
      let world = world_of_day d before in
      ap (λ w. map (λ h. h.name) w.names) (next_world before (on_names (t.Drop table, tt)))
      ∙ names-left (ordinary_query d (named_rows (without table world.names))) world.live (live_after world.live (t.Drop table)) (without table world.names)

  module _ (words : List (List ℕ)) (source : List ℕ) (start : Folder) (run : Run) (before after : List Effect) (defined : IsDefinedRun words source start run) (parts : run.done ≡ before ++ after) where
    right : AreRight d (world_of_day d before)
    right = right_steps [] before after (subst (AreChecked []) parts (defined_checked words source start run defined)) (All-nil (IsRight d [] []))

    -- what holds of a live result that is right holds of each
    each : (P : Live → Type 0) → ((l : Live) → IsRight d (world_of_day d before).names (world_of_day d before).live l → P l) → All P (live_of before)
    each P one = subst (All P) (live_on_day d before) (All-weaker (IsRight d (world_of_day d before).names (world_of_day d before).live) P one (world_of_day d before).live right)

    -- a live result has the rows of its query
    pub live_rows : All (λ l. found (world_of_day d before).names l.name ≡ Some (live_result what.Live d (world_of_day d before).names l)) (live_of before)
    live_rows = each _ (λ l r. found_is (world_of_day d before).names l.name (what.Live, l.query.first.schema) _ r.known r.rows)

    -- a live result of that table is a kept result with these rows after the DROP
    abbrev IsKeptAfter : List ℕ → Live → Type 0
    IsKeptAfter table l =
        uses l.query table ≡ true → found (world_of_day d (before ++ on_names (t.Drop table, tt) ∷ [])).names l.name ≡ Some (live_result what.Kept d (world_of_day d before).names l)

    pub dropped_rows : (table : List ℕ) → All (IsKeptAfter table) (live_of before)
    dropped_rows table =
        each (IsKeptAfter table) (λ l r used. ap (λ w. found w.names l.name) (next_world before (on_names (t.Drop table, tt))) ∙ kept_step d (world_of_day d before) right table l r used)
