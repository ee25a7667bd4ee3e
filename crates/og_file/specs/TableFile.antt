-- Table files: the names of the columns, and then a record for each row.
use Rattle.std.specs.Prelude.{◌≡◌, ◌⊎◌, ◌++◌, ◌+◌, ◌∷◌, [], ℕ, List, length, map}
use Rattle.og_value.specs.Cells.{IsCell}
use Rattle.og_value.specs.Words.{folded}
use Rattle.og_value.specs.declared.schema.Column.{Column}
use Rattle.og_value.specs.declared.value.Value.{Value}
use Rattle.og_file.specs.Records.{Record, AreAll, Begins, Each}
use Rattle.og_file.specs.declared.refusal.FileRefusal.{FileRefusal}
use Rattle.og_file.specs.declared.refusal.FileRefusal.TheVariants as refused

-- the names of the columns, in letters of any case
abbrev pub HasNames : List Column → Record → Type 0
HasNames columns fields = map folded fields ≡ map (λ c. c.name) columns

-- a cell for each column, with its value
abbrev pub AreCells : List Column → Record → List Value → Type 0
AreCells [] [] [] = Unit {0}
AreCells (c ∷ cs) (f ∷ fs) (x ∷ xs) = IsCell c.kind f x × AreCells cs fs xs
AreCells _ _ _ = ⊥

-- the bytes are a table file of these rows
abbrev pub IsTableFile : List Column → List ℕ → List (List Value) → Type 0
IsTableFile columns bytes rows =
    (names : Record) × (records : List Record) × AreAll bytes (names ∷ records) × HasNames columns names × Each (AreCells columns) records rows

-- the record with this number is no row
abbrev pub IsRowFault : List Column → Record → ℕ → FileRefusal → Type 0
IsRowFault columns fields number refused.Header = ⊥
IsRowFault columns fields number (refused.Cell found) = (found ≡ number) × ((values : List Value) → ¬ AreCells columns fields values)
IsRowFault columns fields number (refused.RowCount said found) = ⊥
IsRowFault columns fields number refused.NoMemory = Unit {0}

-- the bytes are no table file, for the first reason that applies
abbrev pub IsTableFault : List Column → List ℕ → FileRefusal → Type 0
IsTableFault columns bytes refused.Header = AreAll bytes [] ⊎ ((names : Record) × Begins bytes (names ∷ []) × ¬ HasNames columns names)
IsTableFault columns bytes (refused.Cell number) =
    (names : Record) × (before : List Record) × (fields : Record) × (rows : List (List Value)) × Begins bytes (names ∷ before ++ fields ∷ [])
    × HasNames columns names × Each (AreCells columns) before rows × ((values : List Value) → ¬ AreCells columns fields values) × (number ≡ length before + 2)
IsTableFault columns bytes (refused.RowCount said found) = ⊥
IsTableFault columns bytes refused.NoMemory = Unit {0}
