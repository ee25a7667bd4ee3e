-- What a writer of records of any lengths has written.
use Rattle.std.specs.Prelude.{◌≡◌, ◌++◌, ◌^◌, ◌-◌, ◌==◌, ⊤, ℕ, Bool, List, [], ◌∷◌, false, true, not, min, length, Some, Vec}
use Rattle.std.specs.declared.alloc.Global.{Global}
use Rattle.csv.specs.Writing.{default_writer, with_flexible, writer_setup, fields_written, has_written, text_written, field_text, row_body}
use Rattle.csv.specs.declared.writer.Writer.{Writer}
use Rattle.csv.specs.declared.writer.WriterBuilder.{WriterBuilder}

-- csv's defaults, but records may differ in length
abbrev pub file_writer : WriterBuilder
file_writer = with_flexible default_writer true

-- the writer is between two records, and has written this text
pub record HasText (w : Writer (Vec ℕ Global)) (text : List ℕ) : Type 0 where
  pub setup : writer_setup w ≡ file_writer
  pub fields : fields_written w ≡ 0
  pub clean : has_written w ≡ false
  pub written : text_written (λ (v : Vec ℕ Global). Some v.items) w ≡ Some text

-- whether some byte was written of a record of these fields: known of none and of one
abbrev pub IsBegun : Bool → List (List ℕ) → Type 0
IsBegun wrote [] = wrote ≡ false
IsBegun wrote (field ∷ []) = wrote ≡ not (length (field_text file_writer field) == 0)
IsBegun wrote (field ∷ next ∷ rest) = ⊤

-- the writer has written this text, and then these fields of a record that is not yet ended
pub record HasFields (w : Writer (Vec ℕ Global)) (text : List ℕ) (fields : List (List ℕ)) : Type 0 where
  pub setup : writer_setup w ≡ file_writer
  pub count : fields_written w ≡ min (length fields) (2 ^ 64 - 1)
  pub begun : IsBegun (has_written w) fields
  pub written : text_written (λ (v : Vec ℕ Global). Some v.items) w ≡ Some (text ++ row_body file_writer fields)
