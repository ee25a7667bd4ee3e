-- The run of the statements that are left, and what those before have written.
use Rattle.std.proofs.Common.{◌≡◌, ◌++◌, ◌≤◌, ℕ, suc, List, [], ◌∷◌, length, drop, Option, Some, None, Result, Ok, Err, refl, sym, ap, ◌∙◌, subst, inl}
use Rattle.std.proofs.lemmas.List.{append_assoc, append-nil, drop_all}
use Rattle.std.specs.Io.KnownBytes.{Appends}
use Rattle.std.proofs.KnownBytes.{Appends-nil, Appends-trans}
use Rattle.og_base.specs.Told.{IsPrefix}
use Rattle.og_syntax.specs.declared.tree.Stmt.{Stmt}
use Rattle.og_io.specs.Folders.{Folder}
use Rattle.og_db.specs.Database.{Relation}
use Rattle.og_db.specs.Effects.{Effect, on_names, saved, reopened, opened, imported}
use Rattle.og_db.specs.Held.{Held}
use Rattle.og_db.specs.Runs.{stored}
use Rattle.og_faults.specs.Faults.{line_of, status_of}
use Rattle.og_faults.specs.Refusals.{Refused}
use Rattle.og_faults.specs.declared.stop.Stop.{Stop}
use Rattle.og_faults.specs.declared.stop.Stop.TheVariants as stops
use Rattle.og_session.specs.Asked.{AreAsked, StepAsks, asked, count_after}
use Rattle.og_session.specs.Contents.{Contents, outcome}
use Rattle.og_session.specs.Ends.{IsHeldState, RunAsks, RunEnds, StepEnds, IsUnreported, IsOfFile, is_saved_by, piece_or_line}
use Rattle.og_session.specs.Headline.{IsCounted, IsCut, IsCutShort, IsCutAtFile, IsCutAtPiece, IsAtFile, HoldFiles, IsStateBut, IsStateOf, is_written_by, next_piece}
use Rattle.og_session.specs.Names.{Watched}
use Rattle.og_session.specs.Output.{piece_of, output_from}
use Rattle.og_session.specs.Runs.{Run, after_outcome, run_from}
use Rattle.og_session.proofs.AskLemmas.{asked-more, asked-stopped, but_some}
use Rattle.og_session.proofs.StateLemmas.{left_state}

-- what more statements write
pub output_from-append : (front xs ys : List Effect) → output_from front (xs ++ ys) ≡ output_from front xs ++ output_from (front ++ xs) ys
output_from-append front [] ys = ap (λ l. output_from l ys) (sym (append-nil front))
output_from-append front (x ∷ xs) ys =
    ap (λ t. piece_of front x ++ t) (output_from-append (front ++ x ∷ []) xs ys ∙ ap (λ l. output_from (front ++ x ∷ []) xs ++ output_from l ys) (append_assoc front (x ∷ []) xs))
    ∙ sym (append_assoc (piece_of front x) (output_from (front ++ x ∷ []) xs) (output_from (front ++ x ∷ xs) ys))

-- what one statement more writes
pub output_from-push : (xs : List Effect) (x : Effect) → output_from [] (xs ++ x ∷ []) ≡ output_from [] xs ++ piece_of xs x
output_from-push xs x = output_from-append [] xs (x ∷ []) ∙ ap (λ t. output_from [] xs ++ t) (append-nil (piece_of xs x))

module _ (start : Folder) (contents : Contents) where
  -- a run carries out those before it, and more
  run_from-done : (n : ℕ) (before : List Effect) (stmts : List Stmt) → (more : List Effect) × ((run_from contents n before stmts).done ≡ before ++ more)
  run_from-done n before [] = ([], sym (append-nil before))
  run_from-done n before (stmt ∷ stmts) = at (outcome contents before stmt) (λ effect. run_from-done (suc n) (before ++ effect ∷ []) stmts)
    where
      at : (o : Result Effect Refused) → ((effect : Effect) → (more : List Effect) × ((run_from contents (suc n) (before ++ effect ∷ []) stmts).done ≡ (before ++ effect ∷ []) ++ more))
          → (more : List Effect) × ((after_outcome n before (λ effect. run_from contents (suc n) (before ++ effect ∷ []) stmts) o).done ≡ before ++ more)
      at (Ok effect) rest = let more = rest effect in (effect ∷ more.0, more.1 ∙ append_assoc before (effect ∷ []) more.0)
      at (Err refusal) rest = ([], sym (append-nil before))

  -- what is next in a run after some statements, by what the next one should do
  record IsNext (n : ℕ) (before : List Effect) (run : Run) (o : Result Effect Refused) : Type 0 where
    pub after : List Effect
    pub parts : run.done ≡ before ++ after
    pub piece : next_piece before after (line_of run.end) ≡ piece_or_line n before o
    pub name : (other : List ℕ) → is_saved_by o other → is_written_by after other
    pub at : IsOfFile n o → IsAtFile after (status_of run.end)

  next_at : (n : ℕ) (before : List Effect) (stmt : Stmt) (stmts : List Stmt) → IsNext n before (run_from contents n before (stmt ∷ stmts)) (outcome contents before stmt)
  next_at n before stmt stmts = by (outcome contents before stmt)
    where
      run_of : Result Effect Refused → Run
      run_of o = after_outcome n before (λ effect. run_from contents (suc n) (before ++ effect ∷ []) stmts) o

      same : (effect : Effect) (more : List Effect) (other : List ℕ) → is_saved_by (Ok effect) other → is_written_by (effect ∷ more) other
      same (on_names stmt) more other h = h
      same (saved name file) more other h = h
      same (reopened name file) more other h = h
      same (opened name columns rel) more other h = h
      same (imported name rows) more other h = h

      file : (effect : Effect) (more : List Effect) (status : ℕ) → IsOfFile n (Ok effect) → IsAtFile (effect ∷ more) status
      file (on_names stmt) more status h = h
      file (saved name f) more status h = h
      file (reopened name f) more status h = h
      file (opened name columns rel) more status h = h
      file (imported name rows) more status h = h

      by : (o : Result Effect Refused) → IsNext n before (run_of o) o
      by (Ok effect) = let more = run_from-done (suc n) (before ++ effect ∷ []) stmts in record {
        after = effect ∷ more.0;
        parts = more.1 ∙ append_assoc before (effect ∷ []) more.0;
        piece = refl;
        name = same effect more.0;
        at = file effect more.0 (status_of (run_of (Ok effect)).end);
      }
      by (Err refusal) = record { after = []; parts = sym (append-nil before); piece = refl; name = λ other h. h; at = λ h. h }

  -- after so many statements: those before were carried out, what they write was written, the files were asked for each on files, and the run is that of those that are left
  pub record IsAt (stmts : List Stmt) (i : ℕ) (held : Watched) (folder : Option Folder) (old now : Option (List ℕ)) (calls calls_now : ℕ) : Type 0 where
    pub before : List Effect
    pub state : IsHeldState start before held folder
    pub written : Appends old now (output_from [] before)
    pub asked : calls_now ≡ count_after calls (asked before)
    pub rest : run_from contents 1 [] stmts ≡ run_from contents (suc i) before (drop i stmts)

  module _ (stmts rest : List Stmt) (i n : ℕ) (stmt : Stmt) (held new_held : Watched) (folder new_folder : Option Folder) (old now new : Option (List ℕ)) (calls calls_now calls_new : ℕ)
      (at : IsAt stmts i held folder old now calls calls_now) (left : drop i stmts ≡ stmt ∷ rest) (one : suc i ≡ n) where
    -- what the statement should do
    abbrev todo : Result Effect Refused
    todo = outcome contents at.before stmt

    -- the run from it on
    abbrev here : Run
    here = run_from contents n at.before (stmt ∷ rest)

    run : run_from contents 1 [] stmts ≡ here
    run = at.rest ∙ ap (λ k. run_from contents k at.before (drop i stmts)) one ∙ ap (run_from contents n at.before) left

    next : IsNext n at.before here todo
    next = next_at n at.before stmt rest

    -- a statement more was carried out
    pub turn-more : (m : ℕ) → drop m stmts ≡ rest → suc m ≡ suc n → StepAsks todo (Ok tt) calls_now calls_new
        → (text : List ℕ) × Appends now new text × StepEnds start n at.before todo new_held new_folder text (Ok tt) → IsAt stmts m new_held new_folder old new calls calls_new
    turn-more m right two asks (text, appended, (effect, good, state, piece)) = record {
      before = at.before ++ effect ∷ [];
      state = state;
      written = subst (Appends old new) (ap (λ t. output_from [] at.before ++ t) piece ∙ sym (output_from-push at.before effect))
          (Appends-trans old now new (output_from [] at.before) text at.written appended);
      asked = asked-more at.before todo calls calls_now calls_new at.asked effect good asks;
      rest = run
          ∙ ap (after_outcome n at.before (λ effect. run_from contents (suc n) (at.before ++ effect ∷ []) rest)) good
          ∙ ap (λ k. run_from contents k (at.before ++ effect ∷ []) rest) (sym two) ∙ ap (run_from contents (suc m) (at.before ++ effect ∷ [])) (sym right);
    }

    -- what was written where the run was stopped at the statement
    abbrev cut : (text : List ℕ) → IsPrefix text (piece_or_line n at.before todo) → IsCut here (output_from [] at.before ++ text)
    cut text begun = record { before = at.before; after = next.after; front = text; parts = next.parts; written = refl; begun = subst (IsPrefix text) (sym next.piece) begun }

    -- and the files, but for the one that it writes
    but : IsStateBut (is_saved_by todo) start at.before (stored new_held.names) new_folder → IsStateBut (is_written_by next.after) start at.before (stored new_held.names) new_folder
    but state = record { files = state.files; names = state.names; held = but_files new_folder state.held; world = state.world; left = state.left }
      where
        but_files : (folder : Option Folder) → HoldFiles (is_saved_by todo) start state.files folder → HoldFiles (is_written_by next.after) start state.files folder
        but_files None h = absurd h
        but_files (Some folder) h = λ name no. h name (λ yes. no (next.name name yes))

    -- the run was stopped at the statement
    pub turn-stopped : (stop : Stop) → (text : List ℕ) × Appends now new text × StepEnds start n at.before todo new_held new_folder text (Err stop)
        → (text : List ℕ) × Appends old new text × RunEnds (run_from contents 1 [] stmts) start (stored new_held.names) new_folder text (Err stop)
    turn-stopped stop (text, appended, ends) = (output_from [] at.before ++ text, Appends-trans old now new (output_from [] at.before) text at.written appended, by stop ends)
      where
        by : (s : Stop) → StepEnds start n at.before todo new_held new_folder text (Err s)
            → RunEnds (run_from contents 1 [] stmts) start (stored new_held.names) new_folder (output_from [] at.before ++ text) (Err s)
        by (stops.Fault fault) (refusal, bad, is, state, none) =
            subst (λ r. RunEnds r start (stored new_held.names) new_folder (output_from [] at.before ++ text) (Err (stops.Fault fault)))
            (sym (run ∙ ap (after_outcome n at.before (λ effect. run_from contents (suc n) (at.before ++ effect ∷ []) rest)) bad))
            (record { ended = ap Err is; written = ap (λ t. output_from [] at.before ++ t) none ∙ append-nil (output_from [] at.before); state = state })
        by stops.ReadFault h = absurd h
        by stops.FileFault (is, state, none) =
            subst (λ r. IsCutAtFile r start (stored new_held.names) new_folder (output_from [] at.before ++ text)) (sym run)
            (record { cut = cut text (subst (λ t. IsPrefix t (piece_or_line n at.before todo)) (sym none) (piece_or_line n at.before todo, refl)); state = but state; at = next.at is })
        by stops.WriteFault (state, begun, some) =
            subst (λ r. IsCutAtPiece r start (stored new_held.names) new_folder (output_from [] at.before ++ text)) (sym run)
            (record { short = record { cut = cut text begun; state = state }; some = λ e. some (sym next.piece ∙ e) })
        by stops.NoMemory (state, begun) = subst (λ r. IsCutShort r start (stored new_held.names) new_folder (output_from [] at.before ++ text)) (sym run) (record { cut = cut text begun; state = state })

    -- and so often the files were asked then
    pub turn-counted : (stop : Stop) → StepAsks todo (Err stop) calls_now calls_new → (text : List ℕ) × Appends now new text × StepEnds start n at.before todo new_held new_folder text (Err stop)
        → RunAsks (run_from contents 1 [] stmts) start (stored new_held.names) new_folder calls calls_new (Err stop)
    turn-counted stop asks (text, appended, ends) = by stop asks ends
      where
        db : List (Held Relation)
        db = stored new_held.names

        counted : IsStateBut (is_written_by next.after) start at.before db new_folder → AreAsked at.before calls calls_new → IsCounted (run_from contents 1 [] stmts) start db new_folder calls calls_new
        counted state many = subst (λ r. IsCounted r start db new_folder calls calls_new) (sym run) (record { before = at.before; after = next.after; parts = next.parts; state = state; asked = many })

        by : (s : Stop) → StepAsks todo (Err s) calls_now calls_new → StepEnds start n at.before todo new_held new_folder text (Err s) → RunAsks (run_from contents 1 [] stmts) start db new_folder calls calls_new (Err s)
        by (stops.Fault fault) asks (refusal, bad, is, state, none) =
            subst (λ r. RunAsks r start db new_folder calls calls_new (Err (stops.Fault fault)))
            (sym (run ∙ ap (after_outcome n at.before (λ effect. run_from contents (suc n) (at.before ++ effect ∷ []) rest)) bad)) (
              record {
                before = at.before;
                after = [];
                parts = sym (append-nil at.before);
                state = but_some (is_written_by []) start at.before db new_folder state;
                asked = asked-stopped at.before todo calls calls_now calls_new at.asked (stops.Fault fault) asks;
              },
              refl,
            )
        by stops.ReadFault asks h = absurd h
        by stops.FileFault asks (is, state, none) = counted (but state) (asked-stopped at.before todo calls calls_now calls_new at.asked stops.FileFault asks)
        by stops.WriteFault asks (state, begun, some) =
            counted (but_some (is_written_by next.after) start at.before db new_folder state) (asked-stopped at.before todo calls calls_now calls_new at.asked stops.WriteFault asks)
        by stops.NoMemory asks (state, begun) =
            counted (but_some (is_written_by next.after) start at.before db new_folder state) (asked-stopped at.before todo calls calls_now calls_new at.asked stops.NoMemory asks)

  module _ (stmts : List Stmt) (i : ℕ) (held : Watched) (folder : Option Folder) (old now : Option (List ℕ)) (calls calls_now : ℕ) (at : IsAt stmts i held folder old now calls calls_now) (end : length stmts ≤ i) where
    -- the run carried out all of them
    all : run_from contents 1 [] stmts ≡ run_from contents (suc i) at.before []
    all = at.rest ∙ ap (run_from contents (suc i) at.before) (drop_all i stmts end)

    -- no statement is left
    pub turn-last : (text : List ℕ) × Appends old now text × RunEnds (run_from contents 1 [] stmts) start (stored held.names) folder text (Ok tt)
    turn-last = (
      output_from [] at.before,
      at.written,
      subst (λ r. IsUnreported r start (stored held.names) folder (output_from [] at.before) (Ok tt)) (sym all) (record { ended = refl; written = refl; state = left_state start at.before held folder at.state }),
    )

    -- and so often the files were asked
    pub last-counted : RunAsks (run_from contents 1 [] stmts) start (stored held.names) folder calls calls_now (Ok tt)
    last-counted =
        subst (λ r. RunAsks r start (stored held.names) folder calls calls_now (Ok tt)) (sym all) (
          record {
            before = at.before;
            after = [];
            parts = sym (append-nil at.before);
            state = but_some (is_written_by []) start at.before (stored held.names) folder (left_state start at.before held folder at.state);
            asked = inl at.asked;
          },
          refl,
          at.asked,
        )

  -- no statement was begun
  pub not_begun : (run : Run) (db : List (Held Relation)) (folder : Option Folder) (old : Option (List ℕ)) → IsStateOf start [] db folder
      → (text : List ℕ) × Appends old old text × RunEnds run start db folder text (Err stops.NoMemory)
  not_begun run db folder old state =
      ([], Appends-nil old, record { cut = record { before = []; after = run.done; front = []; parts = refl; written = refl; begun = (next_piece [] run.done (line_of run.end), refl) }; state = state })
