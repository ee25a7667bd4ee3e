-- Statements on files: what is under a name, and what a file that was read or written makes of a run.
use Rattle.std.proofs.Common.{◌≡◌, ◌≢◌, ◌++◌, ℕ, Bool, true, false, cond, List, [], ◌∷◌, Option, Some, None, Result, Ok, Err, All, length, option_map, inr, refl, sym, ap, ap₂, ◌∙◌, subst, true≢false}
use denote.Enum.Bare.{sameb}
use Rattle.std.specs.Cmp.Lexicographic.{same_text}
use Rattle.std.specs.Str.{bytes_eq}
use Rattle.std.proofs.lemmas.Option.{same_Some}
use Rattle.std.proofs.lemmas.Slice.Eq.{bytes_eq-Decides}
use Rattle.og_value.specs.Words.{IsLowerWord}
use Rattle.og_value.specs.declared.kind.What.{What}
use Rattle.og_value.specs.declared.kind.What.TheVariants as what
use Rattle.og_value.specs.declared.schema.Column.{Column}
use Rattle.og_value.specs.declared.value.Value.{Value}
use Rattle.og_query.specs.Fits.{columns_of, table_columns_of}
use Rattle.og_query.specs.declared.typed.Typed.TheVariants as t
use Rattle.og_io.specs.Folders.{Folder, HasFile, IsAnswer, IsSame, IsSameBut, WhereTold}
use Rattle.og_io.specs.declared.files.FilesRefusal.{FilesRefusal}
use Rattle.og_io.specs.declared.files.FilesRefusal.TheVariants as devices
use Rattle.og_io.specs.contracts.files.Found.{the_type}
use Rattle.og_io.specs.declared.files.Found.{Found}
use Rattle.og_io.specs.declared.files.Found.TheVariants as there
use Rattle.og_db.specs.Database.{Relation}
use Rattle.og_db.specs.Effects.{Effect, saved, reopened, opened, imported, kept_as, with_file, with_name, sizes_after}
use Rattle.og_db.specs.Held.{Held, found, known_of, made_of, rows_of}
use Rattle.og_db.specs.Runs.{AreWithin, IsWorldOf, known_after, sizes_at, stored}
use Rattle.og_db.specs.Statements.{or_else}
use Rattle.og_db.proofs.EffectLemmas.{AreBoth, within-found}
use Rattle.og_db.proofs.WorldLemmas.{found-made_of}
use Rattle.og_file.specs.PlainFiles.{IsPlainFile}
use Rattle.og_file.specs.SavedFile.{Pair, IsSavedFault, IsSavedFile, IsVersionTwo}
use Rattle.og_file.specs.TableFile.{IsTableFault, IsTableFile}
use Rattle.og_file.specs.declared.refusal.FileRefusal.{FileRefusal}
use Rattle.og_file.specs.declared.refusal.FileRefusal.TheVariants as refused
use Rattle.og_view.proofs.BaseLemmas.{table_known}
use Rattle.og_faults.specs.Refusals.{Refused, by_file, in_file, no_file}
use Rattle.og_faults.specs.Stops.{stop_of_bytes, stop_of_files}
use Rattle.og_faults.specs.declared.fault.Fault.TheVariants as faults
use Rattle.og_faults.specs.declared.stop.Stop.TheVariants as stops
use Rattle.og_session.specs.Contents.{AreContents, Content, Contents, IsContent, IsHeld, IsSavedContent, IsTableContent, columns_after, effect_of, importing, importing_of, opening, opening_of, taken}
use Rattle.og_session.specs.Ends.{IsHeldState, IsLeft, IsOfFile, StepEnds, is_saved_by, piece_or_line}
use Rattle.og_session.specs.Headline.{HoldFiles, IsFileOf, no_name}
use Rattle.og_session.specs.Names.{IsDone, IsRunning, Watched}
use Rattle.og_session.proofs.StateLemmas.{more_running}

-- ---- the files

-- a name that is held, with its columns and its rows
pub held_of : (db : List (Held Relation)) (name : List ℕ) (columns : List Column) (rel : Relation) → option_map (λ (k : What × List Column). k.1) (known_of db name) ≡ Some columns → rows_of db name ≡ Some rel
    → (h : Held Relation) × (found db name ≡ Some h) × (h.columns ≡ columns) × (h.rows ≡ rel)
held_of db name columns rel c r = at (found db name) refl c r
  where
    at : (o : Option (Held Relation)) → found db name ≡ o → option_map (λ (k : What × List Column). k.1) (option_map (λ (h : Held Relation). (h.what, h.columns)) o) ≡ Some columns → option_map (λ (h : Held Relation). h.rows) o ≡ Some rel
        → (h : Held Relation) × (found db name ≡ Some h) × (h.columns ≡ columns) × (h.rows ≡ rel)
    at None is c r = cc c
    at (Some h) is c r = (h, is, same_Some h.columns columns c, same_Some h.rows rel r)

module _ (start : Folder) (files : List (Held Relation)) where
  -- files that stayed hold what they held, also but for some
  same_files : (except : List ℕ → Type 0) (old new : Option Folder) → WhereTold IsSame old new → HoldFiles no_name start files old → HoldFiles except start files new
  same_files except None new same held = absurd held
  same_files except (Some old) None same held = absurd same
  same_files except (Some old) (Some now) same held = λ name _. subst (IsFileOf (found files name) (start name)) (sym (same name)) (held name (λ none. none))

  module _ (name file : List ℕ) (old new : Option Folder) (others : WhereTold (IsSameBut file) old new) (held : HoldFiles no_name start files old) where
    -- and so do those of which only that one was to be written, but for it
    unwritten_files : HoldFiles (is_saved_by (Ok (saved name file))) start files new
    unwritten_files = at old new others held
      where
        at : (old new : Option Folder) → WhereTold (IsSameBut file) old new → HoldFiles no_name start files old → HoldFiles (is_saved_by (Ok (saved name file))) start files new
        at None new others held = absurd held
        at (Some old) None others held = absurd others
        at (Some old) (Some now) others held = λ other another. subst (IsFileOf (found files other) (start other)) (sym (others other another)) (held other (λ none. none))

    -- once it was written it holds what is said, too
    written_files : (h : Held Relation) (bytes : List ℕ) → HasFile new file (Some bytes) → IsPlainFile bytes h.columns h.rows → HoldFiles no_name start (kept_as file h ∷ files) new
    written_files h bytes has plain = at old new others held has
      where
        at : (old new : Option Folder) → WhereTold (IsSameBut file) old new → HoldFiles no_name start files old → HasFile new file (Some bytes) → HoldFiles no_name start (kept_as file h ∷ files) new
        at None new others held has = absurd held
        at (Some old) None others held has = absurd others
        at (Some old) (Some now) others held has = λ other _. by other (bytes_eq other file) refl
          where
            by : (other : List ℕ) (b : Bool) → bytes_eq other file ≡ b → IsFileOf (cond b (Some (kept_as file h)) (found files other)) (start other) (now other)
            by other true here = (bytes, ap now (same_text other file (sym here)) ∙ has, plain)
            by other false apart =
                subst (IsFileOf (found files other) (start other)) (sym (others other (λ e. true≢false (sym ((bytes_eq-Decides other file).1 e) ∙ apart)))) (held other (λ none. none))

-- ---- SAVE

-- the law of a SAVE
abbrev SavedMore : Type 0
SavedMore = (db files : List (Held Relation)) (name file : List ℕ) (effects : List Effect) → IsWorldOf db files effects
    → IsWorldOf db (with_file file (found db name) files) (effects ++ saved name file ∷ [])

module _ (start : Folder) (n : ℕ) (before : List Effect) (db : Watched) (old : Option Folder) (state : IsHeldState start before db old) where
  -- memory ran out, and all stayed
  pub no-memory : (outcome : Result Effect Refused) (db' : Watched) (new : Option Folder) → stored db'.names ≡ stored db.names → WhereTold IsSame old new → StepEnds start n before outcome db' new [] (Err stops.NoMemory)
  no-memory outcome db' new same files = (
    record { files = state.files; names = db.names; held = same_files start state.files no_name old new files state.held_files; world = state.running.world; left = same },
    (piece_or_line n before outcome, refl),
  )

  module _ (name file : List ℕ) (new : Option Folder) (others : WhereTold (IsSameBut file) old new) where
    -- the file was written
    pub save-done : SavedMore → (columns : List Column) (rel : Relation) (bytes : List ℕ) (done : Unit {0}) → option_map (λ (k : What × List Column). k.1) (known_of db.names name) ≡ Some columns → rows_of db.names name ≡ Some rel
        → IsPlainFile bytes columns rel → HasFile new file (Some bytes) → StepEnds start n before (Ok (saved name file)) db new [] (Ok done)
    save-done law columns rel bytes done c r plain has =
        let (h, is, same_columns, same_rows) = held_of db.names name columns rel c r in (
          saved name file,
          refl,
          record {
            files = kept_as file h ∷ state.files;
            held_files = written_files start state.files name file old new others state.held_files h bytes has
                (subst (λ cs. IsPlainFile bytes cs h.rows) (sym same_columns) (subst (λ rs. IsPlainFile bytes columns rs) (sym same_rows) plain));
            running = subst (λ o. IsRunning db (with_file file o state.files) (before ++ saved name file ∷ [])) is
                (more_running db db state.files _ before (saved name file) state.running (law db.names state.files name file before state.running.world) refl refl);
          },
          refl,
        )

    -- the file was not written
    pub save-stopped : (refusal : FilesRefusal) → (refusal ≡ devices.NoMemory → WhereTold IsSame old new) → StepEnds start n before (Ok (saved name file)) db new [] (Err (stop_of_files refusal))
    save-stopped devices.Failed want = (tt, record { files = state.files; names = db.names; held = unwritten_files start state.files name file old new others state.held_files; world = state.running.world; left = refl }, refl)
    save-stopped devices.NoMemory want = no-memory (Ok (saved name file)) db new refl (want refl)

-- ---- what is under a name

-- the name of a file, as the run takes it: one that it saved, one that was there at the start, or none
data IsUnder (files : List (Held Relation)) (sizes : List (Held ℕ)) (contents : Contents) (folder : Folder) (file : List ℕ) : Type 0 where
  was_saved : (h : Held Relation) → found files file ≡ Some h → (m : Held ℕ) → found sizes file ≡ Some m → (bytes : List ℕ) → folder file ≡ Some bytes
      → IsVersionTwo bytes h.columns h.rows (length h.rows) → IsUnder files sizes contents folder file
  was_there : found sizes file ≡ None → (bytes : List ℕ) → folder file ≡ Some bytes → (content : Content) → contents file ≡ Some content → IsContent bytes content → IsUnder files sizes contents folder file
  was_absent : found sizes file ≡ None → folder file ≡ None → contents file ≡ None → IsUnder files sizes contents folder file

-- each name is one of these
under : (start folder : Folder) (contents : Contents) (files : List (Held Relation)) (sizes : List (Held ℕ)) (file : List ℕ) → AreContents start contents → HoldFiles no_name start files (Some folder)
    → AreWithin (sizes_at files) sizes → IsUnder files sizes contents folder file
under start folder contents files sizes file whole held within =
    at (found files file) refl (found sizes file) refl (subst (λ o. AreBoth o (found sizes file)) (found-made_of length files file) (within-found file (sizes_at files) sizes within))
    (start file) (held file (λ none. none)) (contents file) refl (whole file)
  where
    at : (o : Option (Held Relation)) → found files file ≡ o → (p : Option (Held ℕ)) → found sizes file ≡ p → AreBoth (option_map (made_of length) o) p
        → (s : Option (List ℕ)) → IsFileOf o s (folder file) → (c : Option Content) → contents file ≡ c → IsHeld s c → IsUnder files sizes contents folder file
    at (Some h) is None none both s kept c content holds = absurd both
    at (Some h) is (Some m) size both s (bytes, now, plain) c content holds = was_saved h is m size bytes now plain.version
    at None is (Some m) size both s kept c content holds = absurd both
    at None is None none both None kept None content holds = was_absent none kept content
    at None is None none both None kept (Some c) content holds = absurd holds
    at None is None none both (Some b) kept None content holds = absurd holds
    at None is None none both (Some b) kept (Some c) content holds = was_there none b kept c content holds

module _ (start : Folder) (n : ℕ) (before : List Effect) (outcome : Result Effect Refused) (db : Watched) (folder : Option Folder) (state : IsLeft start before db folder) where
  -- a statement that is refused for its file, which has this fault
  bad_file : (fault : FileRefusal) → fault ≢ refused.NoMemory → outcome ≡ Err (by_file (in_file fault)) → StepEnds start n before outcome db folder [] (Err (stop_of_bytes n fault))
  bad_file refused.Header some is = (by_file (in_file refused.Header), is, refl, state, refl)
  bad_file (refused.Cell number) some is = (by_file (in_file (refused.Cell number)), is, refl, state, refl)
  bad_file (refused.RowCount said found) some is = (by_file (in_file (refused.RowCount said found)), is, refl, state, refl)
  bad_file refused.NoMemory some is = absurd (some refl)

  -- a fault of a file, or want of memory while it was read
  bad_bytes : (fault : FileRefusal) → (fault ≢ refused.NoMemory → outcome ≡ Err (by_file (in_file fault))) → StepEnds start n before outcome db folder [] (Err (stop_of_bytes n fault))
  bad_bytes refused.Header is = bad_file refused.Header (λ e. cc e) (is (λ e. cc e))
  bad_bytes (refused.Cell number) is = bad_file (refused.Cell number) (λ e. cc e) (is (λ e. cc e))
  bad_bytes (refused.RowCount said found) is = bad_file (refused.RowCount said found) (λ e. cc e) (is (λ e. cc e))
  bad_bytes refused.NoMemory is = (state, (piece_or_line n before outcome, refl))

-- ---- OPEN

-- the laws of saved files
pub record SavedFiles : Type 0 where
  pub one : (bytes : List ℕ) (c d : List Column) (p q : List Pair) → IsSavedFile bytes c p → IsSavedFile bytes d q → (c ≡ d) × (p ≡ q)
  pub one_fault : (bytes : List ℕ) (a b : FileRefusal) → a ≢ refused.NoMemory → b ≢ refused.NoMemory → IsSavedFault bytes a → IsSavedFault bytes b → a ≡ b
  pub no_fault : (bytes : List ℕ) (c : List Column) (p : List Pair) (e : FileRefusal) → IsSavedFile bytes c p → IsSavedFault bytes e → e ≡ refused.NoMemory

-- the laws of an OPEN
abbrev ReopenedMore : Type 0
ReopenedMore = (db files : List (Held Relation)) (name file : List ℕ) (effects : List Effect) → IsWorldOf db files effects
    → IsWorldOf (with_name name (found files file) db) files (effects ++ reopened name file ∷ [])

abbrev OpenedMore : Type 0
OpenedMore = (db files : List (Held Relation)) (name : List ℕ) (columns : List Column) (rel : Relation) (effects : List Effect) → IsWorldOf db files effects
    → IsWorldOf (db ++ record { name = name; what = what.Kept; columns = columns; rows = rel } ∷ []) files (effects ++ opened name columns rel ∷ [])

-- ---- IMPORT

-- the laws of table files
pub record TableFiles : Type 0 where
  pub one : (columns : List Column) (bytes : List ℕ) (a b : List (List Value)) → IsTableFile columns bytes a → IsTableFile columns bytes b → a ≡ b
  pub one_fault : (columns : List Column) (bytes : List ℕ) (a b : FileRefusal) → a ≢ refused.NoMemory → b ≢ refused.NoMemory → IsTableFault columns bytes a → IsTableFault columns bytes b → a ≡ b
  pub no_fault : (columns : List Column) (bytes : List ℕ) (rows : List (List Value)) (e : FileRefusal) → IsTableFile columns bytes rows → IsTableFault columns bytes e → e ≡ refused.NoMemory
  pub no_table : (bytes : List ℕ) (columns kept : List Column) (pairs : List Pair) (count : ℕ) → All (λ c. IsLowerWord c.name) columns → IsVersionTwo bytes kept pairs count
      → IsTableFault columns bytes refused.Header

-- the columns of a name that is known, as the run knows them
pub columns_known : (db : List (Held Relation)) (before : List Effect) (name : List ℕ) (columns : List Column) → known_of db ≡ known_after before
    → option_map (λ (k : What × List Column). k.1) (known_of db name) ≡ Some columns → columns_after before name ≡ columns
columns_known db before name columns known is = ap (λ k. or_else [] (columns_of (k name))) (sym known) ∙ ap (or_else []) (same (known_of db name) ∙ is)
  where
    same : (o : Option (What × List Column)) → columns_of o ≡ option_map (λ (k : What × List Column). k.1) o
    same None = refl
    same (Some k) = refl

-- a table that is known, with the columns that are known of it
pub table_of : (o : Option (What × List Column)) (columns others : List Column) → table_columns_of o ≡ Some others → option_map (λ (k : What × List Column). k.1) o ≡ Some columns
    → o ≡ Some (what.Table, columns)
table_of o columns others is_table is =
    let known = table_known o others is_table in
    known ∙ ap (λ cs. Some (what.Table, cs)) (same_Some others columns (sym (ap (option_map (λ (k : What × List Column). k.1)) known) ∙ is))

-- ---- what is read

-- a file that is there was read
pub present : (found : Found) (folder : Option Folder) (file buffer : List ℕ) → false ≡ sameb the_type found there.Absent → IsAnswer (Ok found) folder file buffer → HasFile folder file (Some buffer)
present there.Present folder file buffer some has = has
present there.Absent folder file buffer some has = absurd (true≢false (sym some))

-- there is no file
pub absent : (found : Found) (folder : Option Folder) (file buffer : List ℕ) → true ≡ sameb the_type found there.Absent → IsAnswer (Ok found) folder file buffer → HasFile folder file None
absent there.Present folder file buffer none has = absurd (true≢false none)
absent there.Absent folder file buffer none has = has.0

module _ (start : Folder) (contents : Contents) (whole : AreContents start contents) (n : ℕ) (before : List Effect) (db : Watched) (name file : List ℕ)
    (old new : Option Folder) (same : WhereTold IsSame old new) (state : IsHeldState start before db old) where
  -- the state, where nothing changed
  stays : (db' : Watched) → stored db'.names ≡ stored db.names → IsLeft start before db' new
  stays db' is = record { files = state.files; names = db.names; held = same_files start state.files no_name old new same state.held_files; world = state.running.world; left = is }

  -- where the files failed
  unread : (outcome : Result Effect Refused) → IsOfFile n outcome → StepEnds start n before outcome db new [] (Err stops.FileFault)
  unread outcome is = (is, record { files = state.files; names = db.names; held = same_files start state.files (is_saved_by outcome) old new same state.held_files; world = state.running.world; left = refl }, refl)

  -- what is known of a name with these bytes, or without a file
  told : (o : Option (List ℕ)) → HasFile old file o → (folder : Folder) × (folder file ≡ o) × HoldFiles no_name start state.files (Some folder)
  told o has = at old has state.held_files
    where
      at : (f : Option Folder) → HasFile f file o → HoldFiles no_name start state.files f → (folder : Folder) × (folder file ≡ o) × HoldFiles no_name start state.files (Some folder)
      at None has held = absurd held
      at (Some folder) has held = (folder, has, held)

  -- and how the run takes it
  how : (folder : Folder) → HoldFiles no_name start state.files (Some folder) → IsUnder state.files (sizes_after before).files contents folder file
  how folder held = under start folder contents state.files (sizes_after before).files file whole held state.running.world.saved_sizes

  -- what an OPEN does
  abbrev opens : Result Effect Refused
  opens = taken (effect_of contents before (t.OpenFile name file))

  -- which is asked of a file
  open_asks : IsOfFile n opens
  open_asks = at (found (sizes_after before).files file) (start file) (contents file) (whole file)
    where
      by : (bytes : List ℕ) (r : Result (List Column × List Pair) FileRefusal) → IsSavedContent bytes r → IsOfFile n (taken (opening_of name r))
      by bytes (Ok table) is = tt
      by bytes (Err refused.Header) is = refl
      by bytes (Err (refused.Cell number)) is = refl
      by bytes (Err (refused.RowCount said found)) is = refl
      by bytes (Err refused.NoMemory) is = absurd (is.0 refl)

      at : (o : Option (Held ℕ)) (s : Option (List ℕ)) (c : Option Content) → IsHeld s c → IsOfFile n (taken (opening name file o c))
      at (Some m) s c holds = tt
      at None s None holds = refl
      at None None (Some content) holds = absurd holds
      at None (Some bytes) (Some content) holds = by bytes content.saved holds.saved

  -- the file was not read
  pub open-unread : (refusal : FilesRefusal) → StepEnds start n before opens db new [] (Err (stop_of_files refusal))
  open-unread devices.Failed = unread opens open_asks
  open-unread devices.NoMemory = (stays db refl, (piece_or_line n before opens, refl))

  -- there is no file
  pub open-absent : HasFile old file None → StepEnds start n before opens db new [] (Err (stops.Fault (faults.NoFile n file)))
  open-absent has = let (folder, is, held) = told None has in by folder is (how folder held)
    where
      by : (folder : Folder) → folder file ≡ None → IsUnder state.files (sizes_after before).files contents folder file → StepEnds start n before opens db new [] (Err (stops.Fault (faults.NoFile n file)))
      by folder is (was_saved h found_is m size bytes now version) = cc (is, now)
      by folder is (was_there none bytes now content holds _) = cc (is, now)
      by folder is (was_absent none now content) =
          (by_file (no_file file), ap₂ (λ o c. taken (opening name file o c)) none content, refl, stays db refl, refl)

  module _ (laws : SavedFiles) (bytes : List ℕ) (has : HasFile old file (Some bytes)) where
    -- the file was read and kept
    pub open-done : ReopenedMore → OpenedMore → (columns : List Column) (rel : Relation) (db' : Watched) (done : Unit {0}) → IsSavedFile bytes columns rel
        → db'.names ≡ db.names ++ record { name = name; what = what.Kept; columns = columns; rows = rel } ∷ [] → db'.views ≡ db.views → StepEnds start n before opens db' new [] (Ok done)
    open-done again another columns rel db' done read kept views = let (folder, is, held) = told (Some bytes) has in by folder is (how folder held)
      where
        by : (folder : Folder) → folder file ≡ Some bytes → IsUnder state.files (sizes_after before).files contents folder file → StepEnds start n before opens db' new [] (Ok done)
        by folder is (was_saved h found_is m size bytes' now version) =
            let one = laws.one bytes h.columns columns h.rows rel (inr (subst (λ b. IsVersionTwo b h.columns h.rows (length h.rows)) (same_Some bytes' bytes (sym now ∙ is)) version)) read in
            let world = again db.names state.files name file before state.running.world in
            let held = same_files start state.files no_name old new same state.held_files in
            let as_kept : with_name name (found state.files file) db.names ≡ db'.names =
            ap (λ o. with_name name o db.names) found_is ∙ ap₂ (λ cs rs. db.names ++ record { name = name; what = what.Kept; columns = cs; rows = rs } ∷ []) one.0 one.1 ∙ sym kept in (
              reopened name file,
              ap (λ o. taken (opening name file o (contents file))) size,
              record {
                files = state.files;
                held_files = held;
                running = more_running db db' state.files state.files before (reopened name file) state.running (subst (λ d. IsWorldOf d state.files (before ++ reopened name file ∷ [])) as_kept world) views refl;
              },
              refl,
            )
        by folder is (was_there none bytes' now content content_is holds) = of content.saved refl (subst (λ b. IsSavedContent b content.saved) (same_Some bytes' bytes (sym now ∙ is)) holds.saved)
          where
            of : (r : Result (List Column × List Pair) FileRefusal) → content.saved ≡ r → IsSavedContent bytes r → StepEnds start n before opens db' new [] (Ok done)
            of (Ok table) saved_is file_is =
                let one = laws.one bytes columns table.0 rel table.1 read file_is in
                let world = another db.names state.files name table.0 table.1 before state.running.world in
                let held = same_files start state.files no_name old new same state.held_files in
                let as_kept : db.names ++ record { name = name; what = what.Kept; columns = table.0; rows = table.1 } ∷ [] ≡ db'.names =
                ap₂ (λ cs rs. db.names ++ record { name = name; what = what.Kept; columns = cs; rows = rs } ∷ []) (sym one.0) (sym one.1) ∙ sym kept in (
                  opened name table.0 table.1,
                  ap₂ (λ o c. taken (opening name file o c)) none content_is ∙ ap (λ r. taken (opening_of name r)) saved_is,
                  record {
                    files = state.files;
                    held_files = held;
                    running = more_running db db' state.files state.files before (opened name table.0 table.1) state.running
                        (subst (λ d. IsWorldOf d state.files (before ++ opened name table.0 table.1 ∷ [])) as_kept world) views refl;
                  },
                  refl,
                )
            of (Err fault) saved_is (some, bad) = absurd (some (laws.no_fault bytes columns rel fault read bad))
        by folder is (was_absent none now content) = cc (is, now)

    -- the file was no saved file
    pub open-faulted : (fault : FileRefusal) → IsSavedFault bytes fault → StepEnds start n before opens db new [] (Err (stop_of_bytes n fault))
    open-faulted fault bad = bad_bytes start n before opens db new (stays db refl) fault (λ some. let (folder, is, held) = told (Some bytes) has in by some folder is (how folder held))
      where
        by : fault ≢ refused.NoMemory → (folder : Folder) → folder file ≡ Some bytes → IsUnder state.files (sizes_after before).files contents folder file → opens ≡ Err (by_file (in_file fault))
        by some folder is (was_saved h found_is m size bytes' now version) =
            absurd (some (laws.no_fault bytes h.columns h.rows fault (inr (subst (λ b. IsVersionTwo b h.columns h.rows (length h.rows)) (same_Some bytes' bytes (sym now ∙ is)) version)) bad))
        by some folder is (was_there none bytes' now content content_is holds) =
            ap₂ (λ o c. taken (opening name file o c)) none content_is ∙ of content.saved (subst (λ b. IsSavedContent b content.saved) (same_Some bytes' bytes (sym now ∙ is)) holds.saved)
          where
            of : (r : Result (List Column × List Pair) FileRefusal) → IsSavedContent bytes r → taken (opening_of name r) ≡ Err (by_file (in_file fault))
            of (Ok table) file_is = absurd (some (laws.no_fault bytes table.0 table.1 fault file_is bad))
            of (Err other) (another, worse) = ap (λ f. Err (by_file (in_file f))) (laws.one_fault bytes other fault another some worse bad)
        by some folder is (was_absent none now content) = cc (is, now)

  -- what an IMPORT does
  abbrev imports : Result Effect Refused
  imports = taken (effect_of contents before (t.ImportFile name file))

  -- which is asked of a file
  import_asks : IsOfFile n imports
  import_asks = at (found (sizes_after before).files file) (start file) (contents file) (whole file)
    where
      by : (columns : List Column) (bytes : List ℕ) (r : Result (List (List Value)) FileRefusal) → IsTableContent columns bytes r → IsOfFile n (taken (importing_of name r))
      by columns bytes (Ok rows) is = tt
      by columns bytes (Err refused.Header) is = refl
      by columns bytes (Err (refused.Cell number)) is = refl
      by columns bytes (Err (refused.RowCount said found)) is = refl
      by columns bytes (Err refused.NoMemory) is = absurd (is.0 refl)

      at : (o : Option (Held ℕ)) (s : Option (List ℕ)) (c : Option Content) → IsHeld s c → IsOfFile n (taken (importing name (columns_after before name) file o c))
      at (Some m) s c holds = refl
      at None s None holds = refl
      at None None (Some content) holds = absurd holds
      at None (Some bytes) (Some content) holds = by (columns_after before name) bytes (content.rows (columns_after before name)) (holds.rows (columns_after before name))

  -- the file was not read
  pub import-unread : (refusal : FilesRefusal) → StepEnds start n before imports db new [] (Err (stop_of_files refusal))
  import-unread devices.Failed = unread imports import_asks
  import-unread devices.NoMemory = (stays db refl, (piece_or_line n before imports, refl))

  -- there is no file
  pub import-absent : HasFile old file None → StepEnds start n before imports db new [] (Err (stops.Fault (faults.NoFile n file)))
  import-absent has = let (folder, is, held) = told None has in by folder is (how folder held)
    where
      by : (folder : Folder) → folder file ≡ None → IsUnder state.files (sizes_after before).files contents folder file → StepEnds start n before imports db new [] (Err (stops.Fault (faults.NoFile n file)))
      by folder is (was_saved h found_is m size bytes now version) = cc (is, now)
      by folder is (was_there none bytes now content holds _) = cc (is, now)
      by folder is (was_absent none now content) =
          (by_file (no_file file), ap₂ (λ o c. taken (importing name (columns_after before name) file o c)) none content, refl, stays db refl, refl)

  module _ (laws : TableFiles) (columns : List Column) (words : All (λ c. IsLowerWord c.name) columns) (are : columns_after before name ≡ columns) (bytes : List ℕ) (has : HasFile old file (Some bytes)) where
    -- what the IMPORT of a file does that was there at the start
    imports_there : found (sizes_after before).files file ≡ None → (content : Content) → contents file ≡ Some content → imports ≡ taken (importing_of name (content.rows columns))
    imports_there none content is = ap₂ (λ o c. taken (importing name (columns_after before name) file o c)) none is ∙ ap (λ cs. taken (importing_of name (content.rows cs))) are

    -- a file that the run saved has no header
    saved_header : (h : Held Relation) (bytes' : List ℕ) → bytes' ≡ bytes → IsVersionTwo bytes' h.columns h.rows (length h.rows) → IsTableFault columns bytes refused.Header
    saved_header h bytes' is version = laws.no_table bytes columns h.columns h.rows (length h.rows) words (subst (λ b. IsVersionTwo b h.columns h.rows (length h.rows)) is version)

    -- the file was read, and its rows inserted
    pub import-done : (rows : List (List Value)) (db' : Watched) (done : Unit {0}) → IsTableFile columns bytes rows → IsDone db db' (imported name rows)
        → StepEnds start n before imports db' new [] (Ok done)
    import-done rows db' done read law = let (folder, is, held) = told (Some bytes) has in by folder is (how folder held)
      where
        by : (folder : Folder) → folder file ≡ Some bytes → IsUnder state.files (sizes_after before).files contents folder file → StepEnds start n before imports db' new [] (Ok done)
        by folder is (was_saved h found_is m size bytes' now version) =
            let none : refused.Header ≡ refused.NoMemory = laws.no_fault columns bytes rows refused.Header read (saved_header h bytes' (same_Some bytes' bytes (sym now ∙ is)) version) in cc none
        by folder is (was_there none bytes' now content content_is holds) =
            of (content.rows columns) (imports_there none content content_is) (subst (λ b. IsTableContent columns b (content.rows columns)) (same_Some bytes' bytes (sym now ∙ is)) (holds.rows columns))
          where
            of : (r : Result (List (List Value)) FileRefusal) → imports ≡ taken (importing_of name r) → IsTableContent columns bytes r → StepEnds start n before imports db' new [] (Ok done)
            of (Ok others) imports_is file_is = (
              imported name rows,
              imports_is ∙ ap (λ rs. Ok (imported name rs)) (laws.one columns bytes others rows file_is read),
              record { files = state.files; held_files = same_files start state.files no_name old new same state.held_files; running = law state.files before state.running },
              refl,
            )
            of (Err fault) imports_is (some, bad) = absurd (some (laws.no_fault columns bytes rows fault read bad))
        by folder is (was_absent none now content) = cc (is, now)

    -- the file was no table file for the columns
    pub import-faulted : (fault : FileRefusal) → IsTableFault columns bytes fault → StepEnds start n before imports db new [] (Err (stop_of_bytes n fault))
    import-faulted fault bad = bad_bytes start n before imports db new (stays db refl) fault (λ some. let (folder, is, held) = told (Some bytes) has in by some folder is (how folder held))
      where
        by : fault ≢ refused.NoMemory → (folder : Folder) → folder file ≡ Some bytes → IsUnder state.files (sizes_after before).files contents folder file → imports ≡ Err (by_file (in_file fault))
        by some folder is (was_saved h found_is m size bytes' now version) =
            let header = saved_header h bytes' (same_Some bytes' bytes (sym now ∙ is)) version in
            ap (λ o. taken (importing name (columns_after before name) file o (contents file))) size
            ∙ ap (λ f. Err (by_file (in_file f))) (laws.one_fault columns bytes refused.Header fault (λ e. cc e) some header bad)
        by some folder is (was_there none bytes' now content content_is holds) =
            imports_there none content content_is ∙ of (content.rows columns) (subst (λ b. IsTableContent columns b (content.rows columns)) (same_Some bytes' bytes (sym now ∙ is)) (holds.rows columns))
          where
            of : (r : Result (List (List Value)) FileRefusal) → IsTableContent columns bytes r → taken (importing_of name r) ≡ Err (by_file (in_file fault))
            of (Ok rows) file_is = absurd (some (laws.no_fault columns bytes rows fault file_is bad))
            of (Err other) (another, worse) = ap (λ f. Err (by_file (in_file f))) (laws.one_fault columns bytes other fault another some worse bad)
        by some folder is (was_absent none now content) = cc (is, now)
