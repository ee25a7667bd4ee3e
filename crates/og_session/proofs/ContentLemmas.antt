-- Files hold something, and one thing alone.
use Rattle.std.proofs.Common.{◌≡◌, ◌≢◌, ◌⊎◌, inl, inr, ℕ, List, Option, Some, None, Result, Ok, Err, refl, ap}
use Rattle.og_value.specs.declared.schema.Column.{Column}
use Rattle.og_value.specs.declared.value.Value.{Value}
use Rattle.og_file.specs.SavedFile.{Pair, IsSavedFault, IsSavedFile}
use Rattle.og_file.specs.TableFile.{IsTableFault, IsTableFile}
use Rattle.og_file.specs.declared.refusal.FileRefusal.{FileRefusal}
use Rattle.og_file.specs.declared.refusal.FileRefusal.TheVariants as refused
use Rattle.og_io.specs.Folders.{Folder}
use Rattle.og_session.specs.Contents.{Content, Contents, IsSavedContent, IsTableContent, IsContent, IsHeld, AreContents}

-- the laws of files: bytes are a file of each kind or have a fault as one
pub record Choices : Type 0 where
  pub saved : (bytes : List ℕ) → ((columns : List Column) × (pairs : List Pair) × IsSavedFile bytes columns pairs) ⊎ ((e : FileRefusal) × (e ≢ refused.NoMemory) × IsSavedFault bytes e)
  pub table : (columns : List Column) (bytes : List ℕ) → ((rows : List (List Value)) × IsTableFile columns bytes rows) ⊎ ((e : FileRefusal) × (e ≢ refused.NoMemory) × IsTableFault columns bytes e)

-- what bytes are, and their fault, is one, and a file has no fault
pub record Laws : Type 0 where
  pub one_saved : (bytes : List ℕ) (c d : List Column) (p q : List Pair) → IsSavedFile bytes c p → IsSavedFile bytes d q → (c ≡ d) × (p ≡ q)
  pub one_table : (columns : List Column) (bytes : List ℕ) (a b : List (List Value)) → IsTableFile columns bytes a → IsTableFile columns bytes b → a ≡ b
  pub whole_saved : (bytes : List ℕ) (c : List Column) (p : List Pair) (e : FileRefusal) → IsSavedFile bytes c p → IsSavedFault bytes e → e ≡ refused.NoMemory
  pub whole_table : (columns : List Column) (bytes : List ℕ) (rows : List (List Value)) (e : FileRefusal) → IsTableFile columns bytes rows → IsTableFault columns bytes e → e ≡ refused.NoMemory
  pub one_saved_fault : (bytes : List ℕ) (a b : FileRefusal) → a ≢ refused.NoMemory → b ≢ refused.NoMemory → IsSavedFault bytes a → IsSavedFault bytes b → a ≡ b
  pub one_table_fault : (columns : List Column) (bytes : List ℕ) (a b : FileRefusal) → a ≢ refused.NoMemory → b ≢ refused.NoMemory → IsTableFault columns bytes a → IsTableFault columns bytes b → a ≡ b

module _ (choices : Choices) where
  -- what bytes are as a saved file
  saved_of : (bytes : List ℕ) → (content : Result (List Column × List Pair) FileRefusal) × IsSavedContent bytes content
  saved_of bytes = by (choices.saved bytes)
    where
      by : ((columns : List Column) × (pairs : List Pair) × IsSavedFile bytes columns pairs) ⊎ ((e : FileRefusal) × (e ≢ refused.NoMemory) × IsSavedFault bytes e)
          → (content : Result (List Column × List Pair) FileRefusal) × IsSavedContent bytes content
      by (inl (columns, pairs, is)) = (Ok (columns, pairs), is)
      by (inr (fault, other, is)) = (Err fault, (other, is))

  -- and as a table file
  rows_of : (bytes : List ℕ) (columns : List Column) → (content : Result (List (List Value)) FileRefusal) × IsTableContent columns bytes content
  rows_of bytes columns = by (choices.table columns bytes)
    where
      by : ((rows : List (List Value)) × IsTableFile columns bytes rows) ⊎ ((e : FileRefusal) × (e ≢ refused.NoMemory) × IsTableFault columns bytes e)
          → (content : Result (List (List Value)) FileRefusal) × IsTableContent columns bytes content
      by (inl (rows, is)) = (Ok rows, is)
      by (inr (fault, other, is)) = (Err fault, (other, is))

  -- what a file holds, where there is one
  held_of : (file : Option (List ℕ)) → (content : Option Content) × IsHeld file content
  held_of None = (None, tt)
  held_of (Some bytes) = (
    Some (record { saved = (saved_of bytes).0; rows = λ columns. (rows_of bytes columns).0 }),
    record { saved = (saved_of bytes).1; rows = λ columns. (rows_of bytes columns).1 },
  )

  -- any files hold something
  pub some_content : (start : Folder) → (contents : Contents) × AreContents start contents
  some_content start = (λ name. (held_of (start name)).0, λ name. (held_of (start name)).1)

module _ (laws : Laws) where
  -- bytes are one thing as a saved file
  one_saved_of : (bytes : List ℕ) (a b : Result (List Column × List Pair) FileRefusal) → IsSavedContent bytes a → IsSavedContent bytes b → a ≡ b
  one_saved_of bytes (Ok s) (Ok t) x y = let same = laws.one_saved bytes s.0 t.0 s.1 t.1 x y in λ i. Ok (same.0 i, same.1 i)
  one_saved_of bytes (Ok s) (Err fault) x y = absurd (y.0 (laws.whole_saved bytes s.0 s.1 fault x y.1))
  one_saved_of bytes (Err fault) (Ok t) x y = absurd (x.0 (laws.whole_saved bytes t.0 t.1 fault y x.1))
  one_saved_of bytes (Err fault) (Err other) x y = ap Err (laws.one_saved_fault bytes fault other x.0 y.0 x.1 y.1)

  -- and one as a table file
  one_rows_of : (columns : List Column) (bytes : List ℕ) (a b : Result (List (List Value)) FileRefusal) → IsTableContent columns bytes a → IsTableContent columns bytes b → a ≡ b
  one_rows_of columns bytes (Ok rows) (Ok others) x y = ap Ok (laws.one_table columns bytes rows others x y)
  one_rows_of columns bytes (Ok rows) (Err fault) x y = absurd (y.0 (laws.whole_table columns bytes rows fault x y.1))
  one_rows_of columns bytes (Err fault) (Ok rows) x y = absurd (x.0 (laws.whole_table columns bytes rows fault y x.1))
  one_rows_of columns bytes (Err fault) (Err other) x y = ap Err (laws.one_table_fault columns bytes fault other x.0 y.0 x.1 y.1)

  -- so they hold one thing
  one_content_of : (bytes : List ℕ) (a b : Content) → IsContent bytes a → IsContent bytes b → a ≡ b
  one_content_of bytes a b x y = λ i. record {
    saved = one_saved_of bytes a.saved b.saved x.saved y.saved i;
    rows = λ columns. one_rows_of columns bytes (a.rows columns) (b.rows columns) (x.rows columns) (y.rows columns) i;
  }

  -- a file holds one thing, where there is one
  one_held : (file : Option (List ℕ)) (a b : Option Content) → IsHeld file a → IsHeld file b → a ≡ b
  one_held None None None x y = refl
  one_held None None (Some b) x y = absurd y
  one_held None (Some a) b x y = absurd x
  one_held (Some bytes) None b x y = absurd x
  one_held (Some bytes) (Some a) None x y = absurd y
  one_held (Some bytes) (Some a) (Some b) x y = ap Some (one_content_of bytes a b x y)

  -- any files hold one thing alone
  pub one_content : (start : Folder) (a b : Contents) → AreContents start a → AreContents start b → a ≡ b
  one_content start a b x y = λ i name. one_held (start name) (a name) (b name) (x name) (y name) i
