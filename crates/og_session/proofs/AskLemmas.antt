-- How often the files were asked, statement after statement.
use Rattle.std.proofs.Common.{◌≡◌, ◌+◌, ◌++◌, ◌∷◌, ◌∙◌, [], ℕ, zero, suc, List, Option, Some, None, Result, Ok, Err, ap, refl, sym, subst, inl, inr, arith}
use Rattle.std.proofs.lemmas.Result.{IfOk-at_ok}
use Rattle.og_io.specs.Counts.{raised}
use Rattle.og_io.specs.Folders.{Folder}
use Rattle.og_io.specs.Sources.{TakesAtMost}
use Rattle.og_db.specs.Database.{Relation}
use Rattle.og_db.specs.Effects.{Effect, on_names, saved, sizes_after}
use Rattle.og_db.specs.Held.{Held, found}
use Rattle.og_db.specs.Statements.{OfNames}
use Rattle.og_value.specs.declared.schema.Column.{Column}
use Rattle.og_value.specs.declared.value.Value.{Value}
use Rattle.og_query.specs.declared.typed.Typed.TheVariants as t
use Rattle.og_file.specs.SavedFile.{Pair}
use Rattle.og_file.specs.declared.refusal.FileRefusal.{FileRefusal}
use Rattle.og_faults.specs.Refusals.{FileFault, Refused, by_file}
use Rattle.og_words.specs.declared.command.Command.{Command}
use Rattle.og_words.specs.declared.command.WordsRefusal.{WordsRefusal}
use Rattle.og_words.specs.declared.command.WordsRefusal.TheVariants as words
use Rattle.og_faults.specs.Stops.{stop_of_put, stop_of_words}
use Rattle.og_faults.specs.declared.fault.Fault.{Fault}
use Rattle.og_faults.specs.declared.fault.Fault.TheVariants as faults
use Rattle.og_faults.specs.declared.stop.Stop.{Stop}
use Rattle.og_faults.specs.declared.stop.Stop.TheVariants as stops
use Rattle.og_io.specs.declared.sink.PutRefusal.{PutRefusal}
use Rattle.og_io.specs.declared.sink.PutRefusal.TheVariants as puts
use Rattle.og_script.specs.Scripts.{IsScriptFault}
use Rattle.og_script.specs.Stops.{IsRunCommand, IsScriptStop, IsStopBefore}
use Rattle.og_session.specs.Asked.{AreAsked, AsksOnce, StepAsks, asked, asks, count_after}
use Rattle.og_session.specs.Contents.{Content, Contents, columns_after, effect_of, importing, importing_of, opening, opening_of, taken}
use Rattle.og_session.specs.Ends.{RunAsks}
use Rattle.og_session.specs.Headline.{HoldFiles, IsCounted, IsStateBut, IsStateOf, is_written_by, no_name}
use Rattle.og_session.specs.Runs.{Run, refused}

-- ---- counts

-- what more statements ask
asked-push : (before : List Effect) (effect : Effect) → asked (before ++ effect ∷ []) ≡ asked before + asks effect
unfolding asked
asked-push [] effect = omega arith
asked-push (e ∷ es) effect = let more = asked-push es effect in omega (arith, more)

-- more calls after some
count_after-more : (old first more : ℕ) → count_after old (first + more) ≡ count_after (count_after old first) more
unfolding count_after
count_after-more old first zero = ap (count_after old) (omega arith)
count_after-more old first (suc more) =
    let one : first + suc more ≡ suc (first + more) = omega arith in
    ap (count_after old) one ∙ ap raised (count_after-more old first more)

-- one call more
pub count_after-one : (old : ℕ) → count_after old 1 ≡ raised old
unfolding count_after
count_after-one old = refl

pub count_after-none : (old : ℕ) → count_after old 0 ≡ old
unfolding count_after
count_after-none old = refl

-- nothing was asked for no statement
pub none_asked : (old : ℕ) → old ≡ count_after old (asked [])
unfolding count_after asked
none_asked old = refl

-- ---- a statement more

module _ (before : List Effect) (outcome : Result Effect Refused) (old now new : ℕ) (is : now ≡ count_after old (asked before)) where
  -- it was carried out
  pub asked-more : (effect : Effect) → outcome ≡ Ok effect → StepAsks outcome (Ok tt) now new → new ≡ count_after old (asked (before ++ effect ∷ []))
  asked-more effect good once =
      subst (λ o. StepAsks o (Ok tt) now new) good once
      ∙ ap (λ n. count_after n (asks effect)) is
      ∙ sym (count_after-more old (asked before) (asks effect))
      ∙ ap (count_after old) (sym (asked-push before effect))

  -- the run was stopped at it
  pub asked-stopped : (stop : Stop) → StepAsks outcome (Err stop) now new → AreAsked before old new
  asked-stopped stop (inl e) = inl (e ∙ is)
  asked-stopped stop (inr e) = inr (e ∙ ap raised is)

-- ---- a statement on files

-- one that asks once does what asks once, or is refused
once : (effect : Effect) (end : Result (Unit {0}) Stop) (old now : ℕ) → asks effect ≡ 1 → AsksOnce end old now → StepAsks (Ok effect) end old now
once effect (Ok done) old now one h = h ∙ sym (count_after-one old) ∙ ap (count_after old) (sym one)
once effect (Err stop) old now one h = h

refused_once : (refusal : Refused) (end : Result (Unit {0}) Stop) (old now : ℕ) → AsksOnce end old now → StepAsks (Err refusal) end old now
refused_once refusal (Ok done) old now h = tt
refused_once refusal (Err stop) old now h = h

-- what a file does that is there, or is not
once_or_refused : (o : Result Effect FileFault) (end : Result (Unit {0}) Stop) (old now : ℕ) → ((effect : Effect) → o ≡ Ok effect → asks effect ≡ 1) → AsksOnce end old now → StepAsks (taken o) end old now
once_or_refused (Ok effect) end old now one h = once effect end old now (one effect refl) h
once_or_refused (Err fault) end old now one h = refused_once (by_file fault) end old now h

opening-asks : (name file : List ℕ) (held : Option (Held ℕ)) (content : Option Content) (effect : Effect) → opening name file held content ≡ Ok effect → asks effect ≡ 1
opening-asks name file (Some held) content effect is = IfOk-at_ok (λ e. asks e ≡ 1) is refl
opening-asks name file None None effect is = cc is
opening-asks name file None (Some content) effect is = by content.saved is
  where
    by : (saved : Result (List Column × List Pair) FileRefusal) → opening_of name saved ≡ Ok effect → asks effect ≡ 1
    by (Ok table) is = IfOk-at_ok (λ e. asks e ≡ 1) is refl
    by (Err fault) is = cc is

importing-asks : (name : List ℕ) (columns : List Column) (file : List ℕ) (held : Option (Held ℕ)) (content : Option Content) (effect : Effect) → importing name columns file held content ≡ Ok effect → asks effect ≡ 1
importing-asks name columns file (Some held) content effect is = cc is
importing-asks name columns file None None effect is = cc is
importing-asks name columns file None (Some content) effect is = by (content.rows columns) is
  where
    by : (rows : Result (List (List Value)) FileRefusal) → importing_of name rows ≡ Ok effect → asks effect ≡ 1
    by (Ok rows) is = IfOk-at_ok (λ e. asks e ≡ 1) is refl
    by (Err fault) is = cc is

module _ (contents : Contents) (before : List Effect) (name file : List ℕ) (end : Result (Unit {0}) Stop) (old now : ℕ) (h : AsksOnce end old now) where
  pub save-asks : StepAsks (taken (effect_of contents before (t.Save name file))) end old now
  save-asks = once (saved name file) end old now refl h

  pub open-asks : StepAsks (taken (effect_of contents before (t.OpenFile name file))) end old now
  open-asks = once_or_refused (effect_of contents before (t.OpenFile name file)) end old now (opening-asks name file (found (sizes_after before).files file) (contents file)) h

  pub import-asks : StepAsks (taken (effect_of contents before (t.ImportFile name file))) end old now
  import-asks = once_or_refused (effect_of contents before (t.ImportFile name file)) end old now (importing-asks name (columns_after before name) file (found (sizes_after before).files file) (contents file)) h

-- a statement on names asks for no file
pub names-ask : (stmt : OfNames) (end : Result (Unit {0}) Stop) (old : ℕ) → StepAsks (Ok (on_names stmt)) end old old
names-ask stmt (Ok done) old = sym (count_after-none old)
names-ask stmt (Err stop) old = inl refl

-- ---- a run

-- without exception, so also with some
pub but_some : (except : List ℕ → Type 0) (start : Folder) (effects : List Effect) (db : List (Held Relation)) (folder : Option Folder) → IsStateOf start effects db folder → IsStateBut except start effects db folder
but_some except start effects db folder state = record { files = state.files; names = state.names; held = files folder state.held; world = state.world; left = state.left }
  where
    files : (folder : Option Folder) → HoldFiles no_name start state.files folder → HoldFiles except start state.files folder
    files None h = absurd h
    files (Some folder) h = λ name no. h name (λ none. none)

module _ (run : Run) (start : Folder) (db : List (Held Relation)) (folder : Option Folder) (old now : ℕ) where
  -- no statement was carried out, and nothing was asked
  pub none-counted : IsStateOf start [] db folder → now ≡ old → IsCounted run start db folder old now
  none-counted state same = record {
    before = [];
    after = run.done;
    parts = refl;
    state = but_some (is_written_by run.done) start [] db folder state;
    asked = inl (same ∙ none_asked old);
  }

  -- the line of a fault could not be written
  pub unsaid-counted : (refusal : PutRefusal) → IsCounted run start db folder old now → RunAsks run start db folder old now (Err (stop_of_put refusal))
  unsaid-counted puts.Failed counted = counted
  unsaid-counted puts.NoMemory counted = counted

  -- however a run ended, the calls were counted
  pub counted_of : (end : Result (Unit {0}) Stop) → RunAsks run start db folder old now end → IsCounted run start db folder old now
  counted_of (Ok done) h = h.0
  counted_of (Err (stops.Fault fault)) h = h.0
  counted_of (Err stops.ReadFault) h = h
  counted_of (Err stops.FileFault) h = h
  counted_of (Err stops.WriteFault) h = h
  counted_of (Err stops.NoMemory) h = h

module _ (run : Run) (start : Folder) (db : List (Held Relation)) (folder : Option Folder) (calls : ℕ) (state : IsStateOf start [] db folder) where
  -- words that are no command
  pub words-ask : (refusal : WordsRefusal) → (refusal ≡ words.NoCommand → run ≡ refused faults.Words) → RunAsks run start db folder calls calls (Err (stop_of_words refusal))
  unfolding none-counted
  words-ask words.NoCommand is = (none-counted run start db folder calls calls state refl, ap (λ r. r.done) (is refl))
  words-ask words.NoMemory is = none-counted run start db folder calls calls state refl

  -- a source that is no script
  pub script-asks : (command : Command) (source : List ℕ) (stop : Stop) → IsStopBefore command stop → IsScriptStop source stop
      → ((fault : Fault) → IsRunCommand command → IsScriptFault source fault → run ≡ refused fault) → RunAsks run start db folder calls calls (Err stop)
  unfolding none-counted
  script-asks command source (stops.Fault fault) before fault' is = (none-counted run start db folder calls calls state refl, ap (λ r. r.done) (is fault before.0 fault'))
  script-asks command source stops.ReadFault before h is = none-counted run start db folder calls calls state refl
  script-asks command source stops.FileFault before h is = absurd before
  script-asks command source stops.WriteFault before h is = absurd before
  script-asks command source stops.NoMemory before h is = none-counted run start db folder calls calls state refl

-- ---- what is taken of a source

-- nothing
pub none_taken : (most : ℕ) (left : Option (List ℕ)) → TakesAtMost most left left
none_taken most None = ([], tt, omega arith)
none_taken most (Some left) = ([], refl, omega arith)
