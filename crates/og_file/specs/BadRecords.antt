-- What is wrong with a record of a file.
use Rattle.std.specs.Prelude.{◌≡◌, ◌≢◌, ◌⊎◌, ◌≤◌, ◌+◌, ◌++◌, ◌∷◌, [], ℕ, List, Some, length, take, slice_get}
use Rattle.csv.specs.Records.{field_at}
use Rattle.og_base.specs.Ranges.{Range}
use Rattle.og_value.specs.Cells.{IsCell}
use Rattle.og_value.specs.declared.schema.Column.{Column}
use Rattle.og_value.specs.declared.value.Value.{Value}
use Rattle.og_file.specs.Records.{Record, IsRecordAt}
use Rattle.og_file.specs.SavedFile.{AreSchema, IsCount, IsDays, IsHeader, Version, mark, one, two}
use Rattle.og_file.specs.TableFile.{AreCells}
use Rattle.og_file.specs.declared.bad_records.BadRecord.{BadRecord}
use Rattle.og_file.specs.declared.bad_records.BadRecord.TheVariants as bad

-- the fields before that of the column are cells, and its field, which has these bytes, is none
abbrev pub IsBadCell : List Column → Record → Column → List ℕ → Type 0
IsBadCell columns fields column bytes =
    (i : ℕ) × (row : List Value) × AreCells (take i columns) (take i fields) row
    × (slice_get columns i ≡ Some column) × (field_at fields i ≡ Some bytes) × ((value : Value) → ¬ IsCell column.kind bytes value)

-- ---- table files

-- the fields are no row, for the first reason that applies
abbrev pub IsBadRow : List Column → Record → BadRecord → Type 0
IsBadRow columns fields (bad.Fields wanted found) = (wanted ≡ length columns) × (found ≡ length fields) × (found ≢ wanted)
IsBadRow columns fields (bad.Cell column bytes) = (length fields ≡ length columns) × IsBadCell columns fields column bytes.items
IsBadRow columns fields _ = ⊥

-- the record with this number, from 1, is no row for this reason
abbrev pub IsBadRecord : List Column → List ℕ → ℕ → BadRecord → Type 0
IsBadRecord columns bytes number told = (fields : Record) × IsRecordAt bytes number fields × IsBadRow columns fields told

-- ---- saved files

-- the header of the version names these columns
abbrev pub HasColumns : Version → List ℕ → List Column → Type 0
HasColumns one bytes columns = (header : Record) × (count : ℕ) × IsRecordAt bytes 1 header × IsHeader header columns count
HasColumns two bytes columns = (header : Record) × IsRecordAt bytes 1 mark × IsRecordAt bytes 2 header × AreSchema header columns

-- the fields are no row of the version, for the first reason that applies: the days come last
abbrev pub IsBadSavedRow : Version → List Column → Record → BadRecord → Type 0
IsBadSavedRow version columns fields (bad.Fields wanted found) = (wanted ≡ length columns + 1) × (found ≡ length fields) × (found ≢ wanted)
IsBadSavedRow version columns fields (bad.Cell column bytes) = (length fields ≡ length columns + 1) × IsBadCell columns fields column bytes.items
IsBadSavedRow version columns fields (bad.Days bytes) =
    (cells : Record) × (row : List Value) × (fields ≡ cells ++ bytes.items ∷ []) × AreCells columns cells row × ((days : List Range) → ¬ IsDays version bytes.items days)
IsBadSavedRow version columns fields _ = ⊥

-- in version 1, the record with this number, from 1, is behind the header and no row, for this reason
abbrev pub IsBadOne : List Column → List ℕ → ℕ → BadRecord → Type 0
IsBadOne columns bytes number told = (2 ≤ number) × (fields : Record) × IsRecordAt bytes number fields × IsBadSavedRow one columns fields told

-- in version 2, the record with this number, from 1, is behind the header, and missing, or says the number of rows before another record, or is neither that nor a row
abbrev pub IsBadTwo : List Column → List ℕ → ℕ → BadRecord → Type 0
IsBadTwo columns bytes number bad.Missing = (3 ≤ number) × ((fields : Record) → ¬ IsRecordAt bytes number fields)
IsBadTwo columns bytes number bad.NotLast =
    (3 ≤ number) × (field : List ℕ) × (count : ℕ) × (next : Record) × IsRecordAt bytes number (field ∷ []) × IsCount field count × IsRecordAt bytes (number + 1) next
IsBadTwo columns bytes number told =
    (3 ≤ number) × (fields : Record) × IsRecordAt bytes number fields × ((field : List ℕ) (count : ℕ) → fields ≡ field ∷ [] → ¬ IsCount field count) × IsBadSavedRow two columns fields told

-- in a saved file of either version, the record with this number, from 1, has this wrong
abbrev pub IsBadSavedRecord : List ℕ → ℕ → BadRecord → Type 0
IsBadSavedRecord bytes number told =
    (columns : List Column) × ((HasColumns one bytes columns × IsBadOne columns bytes number told) ⊎ (HasColumns two bytes columns × IsBadTwo columns bytes number told))
