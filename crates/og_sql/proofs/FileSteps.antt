-- How a statement on a file ends.
use Rattle.std.proofs.Common.{◌≡◌, ◌≢◌, ◌++◌, ℕ, List, [], ◌∷◌, Option, Some, None, Result, Ok, Err, refl, sym, ap, ◌∙◌, subst}
use Rattle.std.specs.Map.{lookup}
use Rattle.std.specs.Option.{option_map}
use Rattle.std.specs.Str.{bytes_eq}
use Rattle.og_value.specs.declared.kind.What.{What}
use Rattle.og_value.specs.declared.schema.Column.{Column}
use Rattle.og_value.specs.declared.value.Value.{Value}
use Rattle.og_query.specs.Fits.{columns_of}
use Rattle.og_query.specs.declared.typed.Typed.TheVariants as t
use Rattle.og_io.specs.Folders.{Folder, HasFile, IsSame, WhereTold}
use Rattle.og_db.specs.Database.{Relation}
use Rattle.og_db.specs.Effects.{Effect, imported, opened, reopened, sizes_after}
use Rattle.og_db.specs.Held.{Held, found, known_of}
use Rattle.og_db.specs.Runs.{known_after}
use Rattle.og_db.specs.Statements.{or_else}
use Rattle.og_file.specs.SavedFile.{Pair, IsSavedFault, IsSavedFile}
use Rattle.og_file.specs.TableFile.{IsTableFault, IsTableFile}
use Rattle.og_file.specs.declared.refusal.FileRefusal.{FileRefusal}
use Rattle.og_file.specs.declared.refusal.FileRefusal.TheVariants as refused
use Rattle.og_faults.specs.Refusals.{Refused, by_file, in_file, no_file}
use Rattle.og_faults.specs.Stops.{stop_of_bytes}
use Rattle.og_faults.specs.declared.fault.Fault.TheVariants as faults
use Rattle.og_faults.specs.declared.stop.Stop.TheVariants as stops
use Rattle.og_session.specs.Contents.{Content, Contents, IsContent, IsHeld, IsSavedContent, IsTableContent, columns_after, effect_of, importing, importing_of, opening, opening_of, taken}
use Rattle.og_outline.specs.Outlines.{IsOutlineOf, Outlined}
use Rattle.og_outline.specs.declared.outline.SavedFile.{SavedFile}
use Rattle.og_sql.specs.Translations.{AreAtStart, IsHeldAt, IsHeldUnless, ReadEnds, StepEnds, outside_effect}
use Rattle.og_sql.specs.declared.stop.SqlStop.{SqlStop}
use Rattle.og_sql.specs.declared.stop.SqlStop.TheVariants as sql

-- ---- what is known

-- the columns of what is known of a name
pub schema_known : (o : Option (What × List Column)) (columns : List Column) → option_map (λ (k : What × List Column). k.1) o ≡ Some columns → columns_of o ≡ Some columns
schema_known None columns e = cc e
schema_known (Some k) columns e = e

-- the columns of a table, as the run knows them
pub columns_known : (o : Outlined) (before : List Effect) (name : List ℕ) (columns : List Column) → known_of o.names ≡ known_after before
    → option_map (λ (k : What × List Column). k.1) (known_of o.names name) ≡ Some columns → columns_after before name ≡ columns
columns_known o before name columns known is = ap (λ k. or_else [] (columns_of (k name))) (sym known) ∙ ap (or_else []) (schema_known (known_of o.names name) columns is)

-- a statement that should do this, whose rows PostgreSQL can hold or not
pub held-ends : (n : ℕ) (before : List Effect) (outcome : Result Effect Refused) (o : Outlined) (effect : Effect) (r : Result (Unit {0}) SqlStop) → outcome ≡ Ok effect
    → IsHeldUnless n (outside_effect effect) r → IsOutlineOf o (before ++ effect ∷ []) → StepEnds n before outcome o r
held-ends n before outcome o effect (Ok done) is inside outline = (effect, is, inside, outline)
held-ends n before outcome o effect (Err (sql.Outside m what)) is (same, out) outline = (effect, is, same, out)
held-ends n before outcome o effect (Err (sql.Run stops.NoMemory)) is h outline = tt
held-ends n before outcome o effect (Err (sql.Run stops.FileFault)) is h outline = tt
held-ends n before outcome o effect (Err (sql.Run stops.ReadFault)) is h outline = absurd h
held-ends n before outcome o effect (Err (sql.Run stops.WriteFault)) is h outline = absurd h
held-ends n before outcome o effect (Err (sql.Run (stops.Fault fault))) is h outline = absurd h

-- and where it was not held
pub unheld : (n : ℕ) (before : List Effect) (outcome : Result Effect Refused) (o : Outlined) (effect : Effect) (stop : SqlStop) → outcome ≡ Ok effect
    → IsHeldUnless n (outside_effect effect) (Err stop) → StepEnds {T = Unit {0}} n before outcome o (Err stop)
unheld n before outcome o effect (sql.Outside m what) is (same, out) = (effect, is, same, out)
unheld n before outcome o effect (sql.Run stops.NoMemory) is h = tt
unheld n before outcome o effect (sql.Run stops.FileFault) is h = tt
unheld n before outcome o effect (sql.Run stops.ReadFault) is h = absurd h
unheld n before outcome o effect (sql.Run stops.WriteFault) is h = absurd h
unheld n before outcome o effect (sql.Run (stops.Fault fault)) is h = absurd h

-- ---- the files

-- files that stayed are those of the start
pub same_start : (start : Folder) (old new : Option Folder) → WhereTold IsSame old new → AreAtStart start old → AreAtStart start new
same_start start None new same at = absurd at
same_start start (Some old) None same at = absurd same
same_start start (Some old) (Some new) same at = λ name. same name ∙ at name

-- a file that is there holds something
held_some : (bytes : List ℕ) (s : Option (List ℕ)) (c : Option Content) → s ≡ Some bytes → IsHeld s c → (content : Content) × (c ≡ Some content) × IsContent bytes content
held_some bytes None None e h = cc e
held_some bytes None (Some content) e h = cc e
held_some bytes (Some b) None e h = absurd h
held_some bytes (Some b) (Some content) e h = (content, refl, subst (λ x. IsContent x content) (cc e) h)

-- and one that is not holds nothing
held_none : (s : Option (List ℕ)) (c : Option Content) → s ≡ None → IsHeld s c → c ≡ None
held_none None None e h = refl
held_none None (Some content) e h = absurd h
held_none (Some b) c e h = cc e

-- what is made of something is something, and of nothing nothing
map_none : {A B C : Type 0} (f : A → C) (g : B → C) (x : Option A) (y : Option B) → option_map f x ≡ option_map g y → x ≡ None → y ≡ None
map_none f g x None e none = refl
map_none f g None (Some b) e none = cc e
map_none f g (Some a) (Some b) e none = cc none

map_some : {A B C : Type 0} (f : A → C) (g : B → C) (x : Option A) (y : Option B) (a : A) → option_map f x ≡ option_map g y → x ≡ Some a → (b : B) × (y ≡ Some b)
map_some f g x (Some b) a e some = (b, refl)
map_some f g None None a e some = cc some
map_some f g (Some x) None a e some = cc e

module _ (start : Folder) (contents : Contents) (before : List Effect) (o : Outlined) (folder : Option Folder) (held : IsHeldAt start contents before o folder) (file : List ℕ) where
  -- the file is there at the start
  present : (bytes : List ℕ) → HasFile folder file (Some bytes) → (content : Content) × (contents file ≡ Some content) × IsContent bytes content
  present bytes has = at folder held.files has
    where
      at : (f : Option Folder) → AreAtStart start f → HasFile f file (Some bytes) → (content : Content) × (contents file ≡ Some content) × IsContent bytes content
      at None is has = absurd is
      at (Some f) is has = held_some bytes (start file) (contents file) (sym (is file) ∙ has) (held.holds file)

  -- and here it is not
  absent : HasFile folder file None → contents file ≡ None
  absent has = at folder held.files has
    where
      at : (f : Option Folder) → AreAtStart start f → HasFile f file None → contents file ≡ None
      at None is has = absurd is
      at (Some f) is has = held_none (start file) (contents file) (sym (is file) ∙ has) (held.holds file)

  -- no statement saved it
  unsaved : lookup (bytes_eq file) o.files ≡ None → found (sizes_after before).files file ≡ None
  unsaved none = map_none (λ (s : SavedFile). s.schema) (λ (h : Held ℕ). h.columns) (lookup (bytes_eq file) o.files) (found (sizes_after before).files file) (held.outline.files file) none

  -- a statement saved it
  was_saved : (s : SavedFile) → lookup (bytes_eq file) o.files ≡ Some s → (h : Held ℕ) × (found (sizes_after before).files file ≡ Some h)
  was_saved s some = map_some (λ (s : SavedFile). s.schema) (λ (h : Held ℕ). h.columns) (lookup (bytes_eq file) o.files) (found (sizes_after before).files file) s (held.outline.files file) some

  module _ (n : ℕ) (name : List ℕ) where
    -- ---- OPEN

    -- what an OPEN of a file that was not saved does
    open_new : (c : Option Content) → lookup (bytes_eq file) o.files ≡ None → contents file ≡ c → effect_of contents before (t.OpenFile name file) ≡ opening name file None c
    open_new c none is = ap (λ f. opening name file f (contents file)) (unsaved none) ∙ ap (opening name file None) is

    -- the file that was saved
    pub open-saved : (s : SavedFile) (new : Outlined) (done : Unit {0}) → lookup (bytes_eq file) o.files ≡ Some s → IsOutlineOf new (before ++ reopened name file ∷ [])
        → StepEnds n before (taken (effect_of contents before (t.OpenFile name file))) new (Ok done)
    open-saved s new done some is =
        (reopened name file, ap (λ f. taken (opening name file f (contents file))) (was_saved s some).1, refl, is)

    -- the file was not read
    pub open-unread : (buffer : List ℕ) (stop : SqlStop) (new : Outlined) → lookup (bytes_eq file) o.files ≡ None → ReadEnds {T = Unit {0}} n folder file buffer (Err stop)
        → StepEnds {T = Unit {0}} n before (taken (effect_of contents before (t.OpenFile name file))) new (Err stop)
    open-unread buffer (sql.Run (stops.Fault fault)) new none (has, is) = (by_file (no_file file), ap taken (open_new None none (absent has)), ap stops.Fault (sym is))
    open-unread buffer (sql.Run stops.FileFault) new none h = tt
    open-unread buffer (sql.Run stops.NoMemory) new none h = tt
    open-unread buffer (sql.Run stops.ReadFault) new none h = absurd h
    open-unread buffer (sql.Run stops.WriteFault) new none h = absurd h
    open-unread buffer (sql.Outside m what) new none h = absurd h

    module _ (bytes : List ℕ) (none : lookup (bytes_eq file) o.files ≡ None) (has : HasFile folder file (Some bytes)) where
      -- it is a saved file
      pub opens : ((c d : List Column) (p q : List Pair) → IsSavedFile bytes c p → IsSavedFile bytes d q → (c ≡ d) × (p ≡ q))
          → ((c : List Column) (p : List Pair) (e : FileRefusal) → IsSavedFile bytes c p → IsSavedFault bytes e → e ≡ refused.NoMemory)
          → (columns : List Column) (rel : Relation) → IsSavedFile bytes columns rel → taken (effect_of contents before (t.OpenFile name file)) ≡ Ok (opened name columns rel)
      opens one no_fault columns rel is = let (content, there, holds) = present bytes has in ap taken (open_new (Some content) none there) ∙ ap (λ c. taken (opening_of name c)) (by content.saved holds.saved)
        where
          by : (c : Result (List Column × List Pair) FileRefusal) → IsSavedContent bytes c → c ≡ Ok (columns, rel)
          by (Ok table) h = let same = one table.0 columns table.1 rel h is in λ i. Ok (same.0 i, same.1 i)
          by (Err fault) h = absurd (h.0 (no_fault columns rel fault is h.1))

      -- it has a fault as one
      pub open-faulted : ((a b : FileRefusal) → a ≢ refused.NoMemory → b ≢ refused.NoMemory → IsSavedFault bytes a → IsSavedFault bytes b → a ≡ b)
          → ((c : List Column) (p : List Pair) (e : FileRefusal) → IsSavedFile bytes c p → IsSavedFault bytes e → e ≡ refused.NoMemory)
          → (fault : FileRefusal) → (fault ≢ refused.NoMemory → IsSavedFault bytes fault) → (new : Outlined)
          → StepEnds {T = Unit {0}} n before (taken (effect_of contents before (t.OpenFile name file))) new (Err (sql.Run (stop_of_bytes n fault)))
      open-faulted one no_fault fault is new = ends fault (λ other. bad fault other (is other))
        where
          bad : (f : FileRefusal) → f ≢ refused.NoMemory → IsSavedFault bytes f → taken (effect_of contents before (t.OpenFile name file)) ≡ Err (by_file (in_file f))
          bad f other is = let (content, there, holds) = present bytes has in ap taken (open_new (Some content) none there) ∙ ap (λ c. taken (opening_of name c)) (by content.saved holds.saved)
            where
              by : (c : Result (List Column × List Pair) FileRefusal) → IsSavedContent bytes c → c ≡ Err f
              by (Ok table) h = absurd (other (no_fault table.0 table.1 f h is))
              by (Err e) h = ap Err (one e f h.0 other h.1 is)

          ends : (f : FileRefusal) → (f ≢ refused.NoMemory → taken (effect_of contents before (t.OpenFile name file)) ≡ Err (by_file (in_file f)))
              → StepEnds {T = Unit {0}} n before (taken (effect_of contents before (t.OpenFile name file))) new (Err (sql.Run (stop_of_bytes n f)))
          ends refused.Header is = (by_file (in_file refused.Header), is (λ e. cc e), refl)
          ends (refused.Cell number) is = (by_file (in_file (refused.Cell number)), is (λ e. cc e), refl)
          ends (refused.RowCount said found) is = (by_file (in_file (refused.RowCount said found)), is (λ e. cc e), refl)
          ends refused.NoMemory is = tt

    -- ---- IMPORT

    -- what an IMPORT of a file that was not saved does
    import_new : (columns : List Column) → columns_after before name ≡ columns → (c : Option Content) → lookup (bytes_eq file) o.files ≡ None → contents file ≡ c
        → effect_of contents before (t.ImportFile name file) ≡ importing name columns file None c
    import_new columns known c none is = ap (λ f. importing name (columns_after before name) file f (contents file)) (unsaved none) ∙ ap (importing name (columns_after before name) file None) is ∙ ap (λ cs. importing name cs file None c) known

    -- a file that a statement saved is no table file
    pub import-saved : (s : SavedFile) (new : Outlined) → lookup (bytes_eq file) o.files ≡ Some s
        → StepEnds {T = Unit {0}} n before (taken (effect_of contents before (t.ImportFile name file))) new (Err (sql.Run (stops.Fault (faults.Header n))))
    import-saved s new some = (by_file (in_file refused.Header), ap (λ f. taken (importing name (columns_after before name) file f (contents file))) (was_saved s some).1, refl)

    -- the file was not read
    pub import-unread : (buffer : List ℕ) (stop : SqlStop) (new : Outlined) → lookup (bytes_eq file) o.files ≡ None → ReadEnds {T = Unit {0}} n folder file buffer (Err stop)
        → StepEnds {T = Unit {0}} n before (taken (effect_of contents before (t.ImportFile name file))) new (Err stop)
    import-unread buffer (sql.Run (stops.Fault fault)) new none (has, is) =
        (by_file (no_file file), ap taken (import_new (columns_after before name) refl None none (absent has)), ap stops.Fault (sym is))
    import-unread buffer (sql.Run stops.FileFault) new none h = tt
    import-unread buffer (sql.Run stops.NoMemory) new none h = tt
    import-unread buffer (sql.Run stops.ReadFault) new none h = absurd h
    import-unread buffer (sql.Run stops.WriteFault) new none h = absurd h
    import-unread buffer (sql.Outside m what) new none h = absurd h

    module _ (bytes : List ℕ) (none : lookup (bytes_eq file) o.files ≡ None) (has : HasFile folder file (Some bytes)) (columns : List Column) (known : columns_after before name ≡ columns) where
      -- it is a table file
      pub imports : ((a b : List (List Value)) → IsTableFile columns bytes a → IsTableFile columns bytes b → a ≡ b)
          → ((rows : List (List Value)) (e : FileRefusal) → IsTableFile columns bytes rows → IsTableFault columns bytes e → e ≡ refused.NoMemory)
          → (rows : List (List Value)) → IsTableFile columns bytes rows → taken (effect_of contents before (t.ImportFile name file)) ≡ Ok (imported name rows)
      imports one no_fault rows is = let (content, there, holds) = present bytes has in
          ap taken (import_new columns known (Some content) none there) ∙ ap (λ c. taken (importing_of name c)) (by (content.rows columns) (holds.rows columns))
        where
          by : (c : Result (List (List Value)) FileRefusal) → IsTableContent columns bytes c → c ≡ Ok rows
          by (Ok others) h = ap Ok (one others rows h is)
          by (Err fault) h = absurd (h.0 (no_fault rows fault is h.1))

      -- it has a fault as one
      pub import-faulted : ((a b : FileRefusal) → a ≢ refused.NoMemory → b ≢ refused.NoMemory → IsTableFault columns bytes a → IsTableFault columns bytes b → a ≡ b)
          → ((rows : List (List Value)) (e : FileRefusal) → IsTableFile columns bytes rows → IsTableFault columns bytes e → e ≡ refused.NoMemory)
          → (fault : FileRefusal) → (fault ≢ refused.NoMemory → IsTableFault columns bytes fault) → (new : Outlined)
          → StepEnds {T = Unit {0}} n before (taken (effect_of contents before (t.ImportFile name file))) new (Err (sql.Run (stop_of_bytes n fault)))
      import-faulted one no_fault fault is new = ends fault (λ other. bad fault other (is other))
        where
          bad : (f : FileRefusal) → f ≢ refused.NoMemory → IsTableFault columns bytes f → taken (effect_of contents before (t.ImportFile name file)) ≡ Err (by_file (in_file f))
          bad f other is = let (content, there, holds) = present bytes has in
              ap taken (import_new columns known (Some content) none there) ∙ ap (λ c. taken (importing_of name c)) (by (content.rows columns) (holds.rows columns))
            where
              by : (c : Result (List (List Value)) FileRefusal) → IsTableContent columns bytes c → c ≡ Err f
              by (Ok rows) h = absurd (other (no_fault rows f h is))
              by (Err e) h = ap Err (one e f h.0 other h.1 is)

          ends : (f : FileRefusal) → (f ≢ refused.NoMemory → taken (effect_of contents before (t.ImportFile name file)) ≡ Err (by_file (in_file f)))
              → StepEnds {T = Unit {0}} n before (taken (effect_of contents before (t.ImportFile name file))) new (Err (sql.Run (stop_of_bytes n f)))
          ends refused.Header is = (by_file (in_file refused.Header), is (λ e. cc e), refl)
          ends (refused.Cell number) is = (by_file (in_file (refused.Cell number)), is (λ e. cc e), refl)
          ends (refused.RowCount said found) is = (by_file (in_file (refused.RowCount said found)), is (λ e. cc e), refl)
          ends refused.NoMemory is = tt
