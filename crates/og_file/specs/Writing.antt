-- The records that are written for a relation.
use Rattle.std.specs.Prelude.{◌≡◌, ◌++◌, ◌∷◌, [], ℕ, List, length, map, codes, if◌then◌else◌}
use Rattle.std.specs.Fmt.{decimal}
use Rattle.std.specs.Str.{bytes_eq}
use Rattle.og_base.specs.Ranges.{Range}
use Rattle.og_base.specs.SetTexts.{set_text}
use Rattle.og_value.specs.Cells.{IsCell, cell_text, kind_of}
use Rattle.og_value.specs.declared.schema.Column.{Column}
use Rattle.og_value.specs.declared.value.Value.{Value}
use Rattle.og_file.specs.Records.{Record}
use Rattle.og_file.specs.SavedFile.{Pair, full_text, kind_word, mark}

-- a row has one value of the kind of each column, in order
abbrev pub IsOfKinds : List Column → List Value → Type 0
IsOfKinds columns row = map kind_of row ≡ map (λ column. column.kind) columns

-- the text of the value is a cell of its kind, with the value
abbrev pub IsReadAgain : Value → Type 0
IsReadAgain value = IsCell (kind_of value) (cell_text value) value

-- a column's name, a colon, and its kind
abbrev pub column_text : Column → List ℕ
column_text column = column.name ++ 58 ∷ kind_word column.kind

-- `*` for all days, else the one text of the days
abbrev pub days_text : List Range → List ℕ
days_text days = if bytes_eq (set_text days) full_text then codes "*" else set_text days

-- the number of rows
abbrev pub count_text : ℕ → List ℕ
count_text count = codes "rows:" ++ decimal count

-- the text of each value, and the days behind them
abbrev pub row_record : Pair → Record
row_record pair = map cell_text pair.0 ++ days_text pair.1 ∷ []

-- the mark, the columns, each row, and the number of rows
abbrev pub records_of : List Column → List Pair → List Record
records_of columns pairs = mark ∷ map column_text columns ∷ map row_record pairs ++ (count_text (length pairs) ∷ []) ∷ []
