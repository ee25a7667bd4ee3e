-- The parts of saved files, as reading goes on. Beside private functions alone.
use Rattle.std.specs.Prelude.{◌≡◌, ◌++◌, ◌∷◌, [], ℕ, List}
use Rattle.og_value.specs.declared.schema.Column.{Column}
use Rattle.og_file.specs.Records.{Record, AreAll, Each}
use Rattle.og_file.specs.SavedFile.{Pair, Version, one, two, IsRow, IsNoRow, IsCount, mark}
use Rattle.og_file.specs.declared.refusal.FileRefusal.{FileRefusal}
use Rattle.og_file.specs.declared.refusal.FileRefusal.TheVariants as refused

-- all records behind the header are rows
abbrev pub HasRowsOne : List ℕ → Record → List Column → List Pair → Type 0
HasRowsOne bytes header columns pairs = (rows : List Record) × AreAll bytes (header ∷ rows) × Each (IsRow one columns) rows pairs

-- all records behind the header are rows, and then the last says their number
abbrev pub HasRowsTwo : List ℕ → Record → List Column → List Pair → ℕ → Type 0
HasRowsTwo bytes header columns pairs count =
    (rows : List Record) × (field : List ℕ) × AreAll bytes (mark ∷ header ∷ rows ++ (field ∷ []) ∷ []) × Each (IsRow two columns) rows pairs × IsCount field count

-- one row more
abbrev pub HasAdded : Version → List Column → Record → List Pair → List Pair → Type 0
HasAdded version columns fields old now = (pair : Pair) × IsRow version columns fields pair × (now ≡ old ++ pair ∷ [])

-- the record with this number is no row
abbrev pub IsPairFault : Version → List Column → Record → ℕ → FileRefusal → Type 0
IsPairFault version columns fields number refused.Header = ⊥
IsPairFault version columns fields number (refused.Cell found) = (found ≡ number) × IsNoRow version columns fields
IsPairFault version columns fields number (refused.RowCount said found) = ⊥
IsPairFault version columns fields number refused.NoMemory = Unit {0}

-- the record says the number of rows
abbrev pub IsEnd : Record → ℕ → Type 0
IsEnd fields count = (field : List ℕ) × (fields ≡ field ∷ []) × IsCount field count
