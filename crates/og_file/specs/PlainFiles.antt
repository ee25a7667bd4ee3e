-- Plain saved files: the one text of version 2 that is written for columns and rows on their days.
use Rattle.std.specs.Prelude.{◌≡◌, ◌<◌, ◌^◌, ◌++◌, ◌∷◌, [], ℕ, List, length}
use Rattle.std.specs.List.{All}
use Rattle.csv.specs.Writing.{default_writer, row_text}
use Rattle.og_value.specs.Schemas.{IsSchema}
use Rattle.og_value.specs.Words.{IsLowerWord}
use Rattle.og_value.specs.declared.schema.Column.{Column}
use Rattle.og_rel.specs.Relations.{HasDays}
use Rattle.og_file.specs.Records.{Record}
use Rattle.og_file.specs.SavedFile.{Pair, IsVersionTwo}
use Rattle.og_file.specs.Writing.{IsOfKinds, IsReadAgain, records_of}

-- the records, one after the other, as csv writes each with its default settings
unfoldable pub text_of_records : List Record → List ℕ
text_of_records [] = []
text_of_records (r ∷ rs) = row_text default_writer r ++ text_of_records rs

-- a saved file of version 2 with these bytes and no others: the records of the columns and of the rows in their order
pub record IsPlainFile (bytes : List ℕ) (columns : List Column) (pairs : List Pair) : Type 0 where
  pub version : IsVersionTwo bytes columns pairs (length pairs)
  pub text : bytes ≡ text_of_records (records_of columns pairs)

-- what a saved file can hold: 1 to 64 columns with words as names, and rows of their kinds, each with days. Each value is read again from its text, and 64 bits count the rows
pub record CanBeSaved (columns : List Column) (pairs : List Pair) : Type 0 where
  pub schema : IsSchema columns
  pub names : All (λ c. IsLowerWord c.name) columns
  pub kinds : All (λ p. IsOfKinds columns p.0) pairs
  pub values : All (λ p. All IsReadAgain p.0) pairs
  pub days : All (λ p. HasDays p.1) pairs
  pub count : length pairs < 2 ^ 64
