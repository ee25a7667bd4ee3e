-- What is written for columns and rows is read again as a saved file of them.
use Rattle.std.proofs.Common.{◌≡◌, ◌≤◌, ◌++◌, ◌∷◌, ◌∙◌, ℕ, List, [], None, length, map, refl, sym, subst, inl, inr, arith}
use Rattle.std.specs.List.{All}
use Rattle.std.specs.Str.{bytes_eq}
use Rattle.std.proofs.lemmas.Bool.{cases_Bool}
use Rattle.std.proofs.lemmas.List.Elements.{All-head, All-tail}
use Rattle.std.proofs.lemmas.Slice.Eq.{bytes_eq-Decides}
use Rattle.csv.specs.Machine.{next_record}
use Rattle.csv.specs.Reading.{default_config, strip_bom, Reached}
use Rattle.csv.specs.Writing.{read_back, fields_text, is_blank}
use Rattle.csv.specs.declared.parser.State.TheVariants as st
use Rattle.csv.proofs.RoundTrip.{read-write, rows_text}
use Rattle.og_base.specs.Ranges.{Range}
use Rattle.og_base.specs.SetTexts.{set_text}
use Rattle.og_value.specs.Cells.{cell_text, kind_of}
use Rattle.og_value.specs.Words.{IsLowerWord}
use Rattle.og_value.specs.declared.schema.Column.{Column}
use Rattle.og_value.specs.declared.value.Value.{Value}
use Rattle.og_rel.specs.Relations.{HasDays}
use Rattle.og_file.specs.PlainFiles.{CanBeSaved, IsPlainFile, text_of_records}
use Rattle.og_file.specs.Records.{Record, AreAll, Each}
use Rattle.og_file.specs.SavedFile.{Pair, AreColumns, IsDays, IsRow, IsSavedFile, IsVersionTwo, full_text, mark, two}
use Rattle.og_file.specs.TableFile.{AreCells}
use Rattle.og_file.specs.Writing.{IsOfKinds, IsReadAgain, column_text, count_text, days_text, row_record, records_of}
use Rattle.og_file.proofs.OneSaved.{one_file}
use Rattle.og_file.proofs.WriteLemmas.{rows_text-plain}

-- each record has a field, and so is read as it was written
abbrev HaveFields : List Record → Type 0
HaveFields [] = Unit {0}
HaveFields (r ∷ rs) = (read_back r ≡ r) × HaveFields rs

-- records that are written are read again, one after the other
reached_all : (rows : List Record) → HaveFields rows → Reached default_config st.StartRecord (rows_text rows) rows st.StartRecord []
unfolding Reached rows_text
reached_all [] have = (refl, refl)
reached_all (row ∷ rows) have = ((read_back row, st.StartRecord, rows_text rows), read-write row (rows_text rows), sym have.0, reached_all rows have.1)

-- the mark of version 2 is no byte order mark
no_bom : (rows : List Record) → strip_bom (rows_text (mark ∷ rows)) ≡ rows_text (mark ∷ rows)
unfolding strip_bom rows_text fields_text is_blank
no_bom rows = refl

none_left : next_record default_config st.StartRecord [] [] [] ≡ None
unfolding next_record
none_left = refl

-- all records that are written behind the mark are read
all_read : (rows : List Record) → HaveFields rows → AreAll (rows_text (mark ∷ rows)) (mark ∷ rows)
all_read rows have = (st.StartRecord, [], rw (no_bom rows) (reached_all (mark ∷ rows) (refl, have)), none_left)

-- a record that ends with a field has one
has_field : (fields : Record) (field : List ℕ) → read_back (fields ++ field ∷ []) ≡ fields ++ field ∷ []
has_field [] field = refl
has_field (first ∷ fields) field = refl

have_fields : (pairs : List Pair) (field : List ℕ) → HaveFields (map row_record pairs ++ (field ∷ []) ∷ [])
have_fields [] field = (refl, tt)
have_fields (p ∷ ps) field = (has_field (map cell_text p.0) (days_text p.1), have_fields ps field)

-- a name is a word in lower case
columns_are : (columns : List Column) → All (λ c. IsLowerWord c.name) columns → AreColumns (map column_text columns) columns
columns_are [] words = tt
columns_are (c ∷ cs) words =
    let word = All-head (λ c. IsLowerWord c.name) c cs words in
    ((c.name, word.word, sym word.lower, refl), columns_are cs (All-tail (λ c. IsLowerWord c.name) c cs words))

-- the cells of a row whose values are of the kinds of the columns
cells_are : (columns : List Column) (row : List Value) → IsOfKinds columns row → All IsReadAgain row → AreCells columns (map cell_text row) row
cells_are [] [] kinds again = tt
cells_are [] (x ∷ xs) kinds again = cc kinds
cells_are (c ∷ cs) [] kinds again = cc kinds
cells_are (c ∷ cs) (x ∷ xs) kinds again =
    let kind : kind_of x ≡ c.kind = cc kinds in
    let rest : map kind_of xs ≡ map (λ column. column.kind) cs = cc kinds in
    (rw (← kind) (All-head IsReadAgain x xs again), cells_are cs xs rest (All-tail IsReadAgain x xs again))

-- the days of a row
days_are : (days : List Range) → HasDays days → IsDays two (days_text days) days
days_are days has = elim (cases_Bool (bytes_eq (set_text days) full_text)) [
  | inl same ↦ (has, inl (rw same refl, (bytes_eq-Decides (set_text days) full_text).0 same))
  | inr other ↦ (has, inr (rw other refl, rw other (λ same. cc (sym other ∙ (bytes_eq-Decides (set_text days) full_text).1 same))))
]

-- the rows
rows_are : (columns : List Column) (pairs : List Pair) → All (λ p. IsOfKinds columns p.0) pairs → All (λ p. HasDays p.1) pairs → All (λ p. All IsReadAgain p.0) pairs → Each (IsRow two columns) (map row_record pairs) pairs
rows_are columns [] fits days again = tt
rows_are columns (p ∷ ps) fits days again = (
  (
    map cell_text p.0,
    days_text p.1,
    refl,
    cells_are columns p.0 (All-head (λ p. IsOfKinds columns p.0) p ps fits) (All-head (λ p. All IsReadAgain p.0) p ps again),
    days_are p.1 (All-head (λ p. HasDays p.1) p ps days),
  ),
  rows_are columns ps (All-tail (λ p. IsOfKinds columns p.0) p ps fits) (All-tail (λ p. HasDays p.1) p ps days) (All-tail (λ p. All IsReadAgain p.0) p ps again),
)

no_column : 1 ≤ 0 → ⊥
no_column some = omega (arith, some)

some_columns : (columns : List Column) → 1 ≤ length columns → read_back (map column_text columns) ≡ map column_text columns
some_columns [] some = absurd (no_column some)
some_columns (c ∷ cs) some = refl

-- the text of the records is a saved file
saved_file : (columns : List Column) (pairs : List Pair) → CanBeSaved columns pairs → IsVersionTwo (rows_text (records_of columns pairs)) columns pairs (length pairs)
saved_file columns pairs can = (
  map column_text columns,
  map row_record pairs,
  count_text (length pairs),
  all_read _ (some_columns columns can.schema.some, have_fields pairs (count_text (length pairs))),
  (columns_are columns can.names, can.schema),
  rows_are columns pairs can.kinds can.days can.values,
  (refl, can.count),
)

-- and so a plain one
pub plain_file : (columns : List Column) (pairs : List Pair) → CanBeSaved columns pairs → IsPlainFile (text_of_records (records_of columns pairs)) columns pairs
plain_file columns pairs can = record {
  version = subst (λ bytes. IsVersionTwo bytes columns pairs (length pairs)) (rows_text-plain (records_of columns pairs)) (saved_file columns pairs can);
  text = refl;
}

-- nothing else is read of it
pub read_again : (bytes : List ℕ) (columns cs : List Column) (pairs ps : List Pair) → IsPlainFile bytes columns pairs → IsSavedFile bytes cs ps → (cs ≡ columns) × (ps ≡ pairs)
read_again bytes columns cs pairs ps plain file = one_file bytes cs columns ps pairs file (inr plain.version)
