-- Saved files of version 1 and of version 2.
use Rattle.std.specs.Prelude.{◌≡◌, ◌≢◌, ◌⊎◌, ◌++◌, ◌+◌, ◌<◌, ◌^◌, ◌∷◌, [], ℕ, List, length, codes, true}
use Rattle.std.specs.Fmt.{decimal}
use Rattle.og_base.specs.Ranges.{Range}
use Rattle.og_base.specs.SetTexts.{set_text}
use Rattle.og_value.specs.Schemas.{IsSchema}
use Rattle.og_value.specs.Words.{is_word, folded}
use Rattle.og_value.specs.declared.kind.Kind.{Kind}
use Rattle.og_value.specs.declared.kind.Kind.TheVariants as k
use Rattle.og_value.specs.declared.schema.Column.{Column}
use Rattle.og_value.specs.declared.value.Value.{Value}
use Rattle.og_rel.specs.Relations.{HasDays}
use Rattle.og_file.specs.Records.{Record, AreAll, Begins, Each}
use Rattle.og_file.specs.TableFile.{AreCells}
use Rattle.og_file.specs.declared.refusal.FileRefusal.{FileRefusal}
use Rattle.og_file.specs.declared.refusal.FileRefusal.TheVariants as refused

-- a row with the ranges of its days
abbrev pub Pair : Type 0
Pair = List Value × List Range

-- ---- the fields

-- a kind as a header names it
abbrev pub kind_word : Kind → List ℕ
kind_word k.Int = codes "INT"
kind_word k.Text = codes "TEXT"
kind_word k.Date = codes "DATE"
kind_word k.Period = codes "PERIOD"

-- a word, which is the name in letters of any case, a colon, and the kind
abbrev pub IsColumn : List ℕ → Column → Type 0
IsColumn field column = (word : List ℕ) × (is_word word ≡ true) × (column.name ≡ folded word) × (field ≡ word ++ 58 ∷ kind_word column.kind)

-- a field for each column
abbrev pub AreColumns : Record → List Column → Type 0
AreColumns [] [] = Unit {0}
AreColumns (f ∷ fs) (c ∷ cs) = IsColumn f c × AreColumns fs cs
AreColumns _ _ = ⊥

-- 1 to 64 columns
abbrev pub AreSchema : Record → List Column → Type 0
AreSchema fields columns = AreColumns fields columns × IsSchema columns

-- `rows:` and the number of rows, in digits without leading zeros
abbrev pub IsCount : List ℕ → ℕ → Type 0
IsCount field count = (field ≡ codes "rows:" ++ decimal count) × (count < 2 ^ 64)

-- the text of all days
abbrev pub full_text : List ℕ
full_text = codes "{[-infinity,infinity)}"

-- the two versions
pub data Version : Type 0 where
  one : Version
  two : Version

-- the days of a row: a set text that is not `{}`; in version 2 all days are `*`, and only that
abbrev pub IsDays : Version → List ℕ → List Range → Type 0
IsDays one field days = HasDays days × (field ≡ set_text days)
IsDays two field days = HasDays days × (((field ≡ codes "*") × (set_text days ≡ full_text)) ⊎ ((field ≡ set_text days) × (field ≢ full_text)))

-- a cell for each column, and the days behind them
abbrev pub IsRow : Version → List Column → Record → Pair → Type 0
IsRow version columns fields pair = (cells : Record) × (days : List ℕ) × (fields ≡ cells ++ days ∷ []) × AreCells columns cells pair.0 × IsDays version days pair.1

-- the record is no row
abbrev pub IsNoRow : Version → List Column → Record → Type 0
IsNoRow version columns fields = (pair : Pair) → ¬ IsRow version columns fields pair

-- ---- the files

-- the first record of version 1: the columns, and the number of rows behind them
abbrev pub IsHeader : Record → List Column → ℕ → Type 0
IsHeader record' columns count = (fields : Record) × (field : List ℕ) × (record' ≡ fields ++ field ∷ []) × AreSchema fields columns × IsCount field count

-- the first record of version 2
abbrev pub mark : Record
mark = codes "ongq:2" ∷ []

-- version 1: the header, and then the rows
abbrev pub IsVersionOne : List ℕ → List Column → List Pair → ℕ → Type 0
IsVersionOne bytes columns pairs count =
    (header : Record) × (rows : List Record) × AreAll bytes (header ∷ rows) × IsHeader header columns count × Each (IsRow one columns) rows pairs

-- version 2: the mark, the columns, the rows, and the number of rows
abbrev pub IsVersionTwo : List ℕ → List Column → List Pair → ℕ → Type 0
IsVersionTwo bytes columns pairs count =
    (header : Record) × (rows : List Record) × (field : List ℕ) × AreAll bytes (mark ∷ header ∷ rows ++ (field ∷ []) ∷ [])
    × AreSchema header columns × Each (IsRow two columns) rows pairs × IsCount field count

-- the bytes are a saved file with these columns, and rows on their days
abbrev pub IsSavedFile : List ℕ → List Column → List Pair → Type 0
IsSavedFile bytes columns pairs = IsVersionOne bytes columns pairs (length pairs) ⊎ IsVersionTwo bytes columns pairs (length pairs)

-- ---- the faults

-- the first record is missing or of neither form, or it is the mark and the second is missing or not of its form
abbrev pub LacksHeader : List ℕ → Type 0
LacksHeader bytes =
    AreAll bytes []
    ⊎ ((first : Record) × Begins bytes (first ∷ []) × (first ≢ mark) × ((columns : List Column) (count : ℕ) → ¬ IsHeader first columns count))
    ⊎ AreAll bytes (mark ∷ [])
    ⊎ ((second : Record) × Begins bytes (mark ∷ second ∷ []) × ((columns : List Column) → ¬ AreSchema second columns))

-- in version 1, the record with this number is the first that is no row
abbrev pub LacksRowOne : List ℕ → ℕ → Type 0
LacksRowOne bytes number =
    (header : Record) × (before : List Record) × (fields : Record) × (columns : List Column) × (count : ℕ) × (pairs : List Pair)
    × Begins bytes (header ∷ before ++ fields ∷ []) × IsHeader header columns count × Each (IsRow one columns) before pairs
    × IsNoRow one columns fields × (number ≡ length before + 2)

-- the record does not say the number of rows, or is not the last one
abbrev pub IsNoEnd : List ℕ → List Record → Record → Type 0
IsNoEnd bytes before fields =
    ((field : List ℕ) (count : ℕ) → fields ≡ field ∷ [] → ¬ IsCount field count) ⊎ ((next : Record) × Begins bytes (before ++ fields ∷ next ∷ []))

-- in version 2, the record with this number is the first that is neither a row nor the last record, or it is missing behind rows alone
abbrev pub LacksRowTwo : List ℕ → ℕ → Type 0
LacksRowTwo bytes number =
    ((header : Record) × (before : List Record) × (fields : Record) × (columns : List Column) × (pairs : List Pair)
    × Begins bytes (mark ∷ header ∷ before ++ fields ∷ []) × AreSchema header columns × Each (IsRow two columns) before pairs
    × IsNoRow two columns fields × IsNoEnd bytes (mark ∷ header ∷ before) fields × (number ≡ length before + 3))
    ⊎ ((header : Record) × (rows : List Record) × (columns : List Column) × (pairs : List Pair)
    × AreAll bytes (mark ∷ header ∷ rows) × AreSchema header columns × Each (IsRow two columns) rows pairs × (number ≡ length rows + 3))

-- all is of its form, but the file says another number of rows than it has
abbrev pub MissesCount : List ℕ → ℕ → ℕ → Type 0
MissesCount bytes said found =
    (columns : List Column) × (pairs : List Pair) × (IsVersionOne bytes columns pairs said ⊎ IsVersionTwo bytes columns pairs said) × (found ≡ length pairs) × (said ≢ found)

-- the bytes are no saved file, for the first reason that applies
abbrev pub IsSavedFault : List ℕ → FileRefusal → Type 0
IsSavedFault bytes refused.Header = LacksHeader bytes
IsSavedFault bytes (refused.Cell number) = LacksRowOne bytes number ⊎ LacksRowTwo bytes number
IsSavedFault bytes (refused.RowCount said found) = MissesCount bytes said found
IsSavedFault bytes refused.NoMemory = Unit {0}
