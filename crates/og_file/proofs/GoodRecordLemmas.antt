-- Where nothing is wrong with a record of a file.
use Rattle.std.proofs.Common.{◌≡◌, ◌≢◌, ◌+◌, ◌∙◌, ℕ, suc, List, [], ◌∷◌, ◌++◌, Option, Some, None, length, take, sym, ap, subst, inl, inr, arith}
use Rattle.std.specs.Option.{IfNone}
use Rattle.std.proofs.lemmas.List.{length-append, same_from_push}
use Rattle.std.proofs.Math.Seq.{take-append_seam}
use Rattle.og_value.specs.declared.schema.Column.{Column}
use Rattle.og_value.specs.declared.value.Value.{Value}
use Rattle.og_file.specs.BadRecords.{HasColumns, IsBadCell, IsBadOne, IsBadRecord, IsBadRow, IsBadSavedRecord, IsBadSavedRow, IsBadTwo}
use Rattle.og_file.specs.Records.{Record, IsRecordAt}
use Rattle.og_file.specs.SavedFile.{Pair, AreColumns, AreSchema, IsDays, IsHeader, IsRow, Version, mark, one, two}
use Rattle.og_file.specs.SavedParts.{IsEnd}
use Rattle.og_file.specs.TableFile.{AreCells}
use Rattle.og_file.specs.declared.bad_records.BadRecord.{BadRecord}
use Rattle.og_file.specs.declared.bad_records.BadRecord.TheVariants as bad
use Rattle.og_file.proofs.AllBytes.{records_of_all_bytes}
use Rattle.og_file.proofs.CellLemmas.{as_long, cell_at}
use Rattle.og_file.proofs.OneLists.{begins_all}
use Rattle.og_file.proofs.OneSaved.{no_mark, one_columns, one_header}

-- ---- the record with a number

one_less : (n m : ℕ) → n + 1 ≡ m + 1 → n ≡ m
one_less n m e = omega (arith, e)

both_less : (n m : ℕ) → suc n ≡ suc m → n ≡ m
both_less n m e = omega (arith, e)

none_and_more : (n : ℕ) → 0 ≡ suc n → ⊥
none_and_more n e = omega (arith, e)

-- what stands at a place of one list is one record
same_place : (xs ys : List Record) (f g : Record) (rest more : List Record) → length xs ≡ length ys → (xs ++ f ∷ []) ++ rest ≡ (ys ++ g ∷ []) ++ more → f ≡ g
same_place [] [] f g rest more long e = cc e
same_place (x ∷ xs) (y ∷ ys) f g rest more long e =
    let behind : (xs ++ f ∷ []) ++ rest ≡ (ys ++ g ∷ []) ++ more = cc e in
    same_place xs ys f g rest more (both_less (length xs) (length ys) long) behind
same_place [] (y ∷ ys) f g rest more long e = absurd (none_and_more (length ys) long)
same_place (x ∷ xs) [] f g rest more long e = absurd (none_and_more (length xs) (sym long))

-- the bytes have one record with a number
pub one_record : (bytes : List ℕ) (number : ℕ) (f g : Record) → IsRecordAt bytes number f → IsRecordAt bytes number g → f ≡ g
one_record bytes number f g is other =
    let all = records_of_all_bytes bytes in
    let first = begins_all bytes (is.0 ++ f ∷ []) all.0 is.1 all.1 in
    let second = begins_all bytes (other.0 ++ g ∷ []) all.0 other.1 all.1 in
    same_place is.0 other.0 f g first.0 second.0 (one_less (length is.0) (length other.0) (is.2 ∙ sym other.2)) (sym first.1 ∙ second.1)

-- ---- rows

-- where the cells are those of a row, none of them is bad
no_bad_cell : (columns : List Column) (fs : Record) (n : ℕ) (row : List Value) (column : Column) (text : List ℕ) → AreCells columns (take n fs) row → ¬ IsBadCell columns fs column text
no_bad_cell columns fs n row column text are is =
    let cell = cell_at columns fs row n is.0 column text are is.3 is.4 in
    is.5 cell.0 cell.1

-- nothing is wrong with a row of a table file
pub good_row : (columns : List Column) (fs : Record) (row : List Value) → length fs ≡ length columns → AreCells columns (take (length columns) fs) row → (told : BadRecord) → ¬ IsBadRow columns fs told
good_row columns fs row long are (bad.Fields wanted found) is = is.2 (is.1 ∙ long ∙ sym is.0)
good_row columns fs row long are (bad.Cell column text) is = no_bad_cell columns fs (length columns) row column text.items are is.1
good_row columns fs row long are (bad.Days text) is = is
good_row columns fs row long are bad.Missing is = is
good_row columns fs row long are bad.NotLast is = is

-- nor with its record
pub good_record : (columns : List Column) (bytes : List ℕ) (number : ℕ) (fields : Record) (told : Option BadRecord) → IsRecordAt bytes number fields
    → IfNone told ((b : BadRecord) → ¬ IsBadRow columns fields b) → IfNone told ((b : BadRecord) → ¬ IsBadRecord columns bytes number b)
good_record columns bytes number fields (Some b) at none = tt
good_record columns bytes number fields None at none = λ b is. none b (subst (λ r. IsBadRow columns r b) (one_record bytes number is.0 fields is.1 at) is.2)

-- nothing is wrong with a row of a saved file
good_saved_row : (version : Version) (columns : List Column) (fs : Record) (pair : Pair) → IsRow version columns fs pair → (told : BadRecord) → ¬ IsBadSavedRow version columns fs told
good_saved_row version columns fs pair row (bad.Fields wanted found) is =
    is.2 (is.1 ∙ ap length row.2 ∙ length-append row.0 (row.1 ∷ []) ∙ ap (λ n. n + 1) (as_long columns row.0 pair.0 row.3) ∙ sym is.0)
good_saved_row version columns fs pair row (bad.Cell column text) is =
    let front : take (length row.0) fs ≡ row.0 = ap (λ r. take (length row.0) r) row.2 ∙ take-append_seam row.0 (row.1 ∷ []) in
    no_bad_cell columns fs (length row.0) pair.0 column text.items (subst (λ cells. AreCells columns cells pair.0) (sym front) row.3) is.1
good_saved_row version columns fs pair row (bad.Days text) is =
    let same = same_from_push row.0 is.0 row.1 text.items (sym row.2 ∙ is.2) in
    is.4 pair.1 (subst (λ days. IsDays version days pair.1) same.1 row.4)
good_saved_row version columns fs pair row bad.Missing is = is
good_saved_row version columns fs pair row bad.NotLast is = is

-- nor with its record: of version 1, and of version 2
pub good_one : (columns : List Column) (bytes : List ℕ) (number : ℕ) (fields : Record) (pair : Pair) → IsRecordAt bytes number fields → IsRow one columns fields pair
    → (b : BadRecord) → ¬ IsBadOne columns bytes number b
good_one columns bytes number fields pair at row b is =
    good_saved_row one columns fields pair row b (subst (λ r. IsBadSavedRow one columns r b) (one_record bytes number is.1 fields is.2 at) is.3)

pub good_two : (columns : List Column) (bytes : List ℕ) (number : ℕ) (fields : Record) (pair : Pair) → IsRecordAt bytes number fields → ((count : ℕ) → ¬ IsEnd fields count) → IsRow two columns fields pair
    → (b : BadRecord) → ¬ IsBadTwo columns bytes number b
good_two columns bytes number fields pair at none row bad.Missing is = is.1 fields at
good_two columns bytes number fields pair at none row bad.NotLast is = none is.2 (is.1, one_record bytes number fields (is.1 ∷ []) at is.4, is.5)
good_two columns bytes number fields pair at none row (bad.Fields wanted found) is =
    good_saved_row two columns fields pair row (bad.Fields wanted found) (subst (λ r. IsBadSavedRow two columns r (bad.Fields wanted found)) (one_record bytes number is.1 fields is.2 at) is.4)
good_two columns bytes number fields pair at none row (bad.Cell column text) is =
    good_saved_row two columns fields pair row (bad.Cell column text) (subst (λ r. IsBadSavedRow two columns r (bad.Cell column text)) (one_record bytes number is.1 fields is.2 at) is.4)
good_two columns bytes number fields pair at none row (bad.Days text) is =
    good_saved_row two columns fields pair row (bad.Days text) (subst (λ r. IsBadSavedRow two columns r (bad.Days text)) (one_record bytes number is.1 fields is.2 at) is.4)

-- nothing is wrong with the last record of version 2, where no other follows
good_end : (columns : List Column) (bytes : List ℕ) (number : ℕ) (fields : Record) (count : ℕ) → IsRecordAt bytes number fields → IsEnd fields count → ((next : Record) → ¬ IsRecordAt bytes (number + 1) next)
    → (b : BadRecord) → ¬ IsBadTwo columns bytes number b
good_end columns bytes number fields count at end none bad.Missing is = is.1 fields at
good_end columns bytes number fields count at end none bad.NotLast is = none is.3 is.6
good_end columns bytes number fields count at end none (bad.Fields wanted found) is = is.3 end.0 count (one_record bytes number is.1 fields is.2 at ∙ end.1) end.2
good_end columns bytes number fields count at end none (bad.Cell column text) is = is.3 end.0 count (one_record bytes number is.1 fields is.2 at ∙ end.1) end.2
good_end columns bytes number fields count at end none (bad.Days text) is = is.3 end.0 count (one_record bytes number is.1 fields is.2 at ∙ end.1) end.2

pub good_end_told : (columns : List Column) (bytes : List ℕ) (number : ℕ) (fields : Record) (count : ℕ) (told : Option BadRecord) → IsRecordAt bytes number fields → IsEnd fields count
    → IfNone told ((next : Record) → ¬ IsRecordAt bytes (number + 1) next) → IfNone told ((b : BadRecord) → ¬ IsBadTwo columns bytes number b)
good_end_told columns bytes number fields count (Some b) at end none = tt
good_end_told columns bytes number fields count None at end none = good_end columns bytes number fields count at end none

-- ---- headers

-- where the first record is no header, version 1 has no columns
pub no_columns_one : (bytes : List ℕ) (first : Record) → IsRecordAt bytes 1 first → ((columns : List Column) (count : ℕ) → ¬ IsHeader first columns count) → (columns : List Column) → ¬ HasColumns one bytes columns
no_columns_one bytes first at none columns has = none columns has.1 (subst (λ r. IsHeader r columns has.1) (one_record bytes 1 has.0 first has.2 at) has.3)

-- where the first record is not the mark, version 2 has none
pub no_mark_two : (bytes : List ℕ) (first : Record) → IsRecordAt bytes 1 first → first ≢ mark → (columns : List Column) → ¬ HasColumns two bytes columns
no_mark_two bytes first at other columns has = other (one_record bytes 1 first mark at has.1)

-- nor where the second is no header
no_columns_two : (bytes : List ℕ) (second : Record) → IsRecordAt bytes 2 second → ((columns : List Column) → ¬ AreSchema second columns) → (columns : List Column) → ¬ HasColumns two bytes columns
no_columns_two bytes second at none columns has = none columns (subst (λ r. AreSchema r columns) (one_record bytes 2 has.0 second has.2 at) has.3)

pub no_columns_told : {X : Type 0} (bytes : List ℕ) (second taken : Record) (found : Option X) → taken ≡ second → IsRecordAt bytes 2 second
    → IfNone found ((columns : List Column) → ¬ AreSchema taken columns) → IfNone found ((columns : List Column) → ¬ HasColumns two bytes columns)
no_columns_told bytes second taken (Some x) whole at none = tt
no_columns_told bytes second taken None whole at none = no_columns_two bytes second at (λ columns are. none columns (subst (λ r. AreSchema r columns) (sym whole) are))

-- a file has the header of one version
one_version : (bytes : List ℕ) (cs ds : List Column) → HasColumns one bytes cs → HasColumns two bytes ds → ⊥
one_version bytes cs ds is other = no_mark is.0 cs is.1 (one_record bytes 1 is.0 mark is.2 other.1) is.3

-- ---- saved files

good_file_one : (bytes : List ℕ) (schema : List Column) (number : ℕ) (b : BadRecord) → HasColumns one bytes schema → ¬ IsBadOne schema bytes number b → ¬ IsBadSavedRecord bytes number b
good_file_one bytes schema number b has none (columns, inl is) =
    let same = (one_header is.0.0 has.0 columns schema is.0.1 has.1 (one_record bytes 1 is.0.0 has.0 is.0.2 has.2) is.0.3 has.3).0 in
    none (subst (λ cs. IsBadOne cs bytes number b) same is.1)
good_file_one bytes schema number b has none (columns, inr is) = one_version bytes schema columns has is.0

good_file_two : (bytes : List ℕ) (schema : List Column) (number : ℕ) (b : BadRecord) → HasColumns two bytes schema → ¬ IsBadTwo schema bytes number b → ¬ IsBadSavedRecord bytes number b
good_file_two bytes schema number b has none (columns, inl is) = one_version bytes columns schema is.0 has
good_file_two bytes schema number b has none (columns, inr is) =
    let header = one_record bytes 2 has.0 is.0.0 has.2 is.0.2 in
    let same = one_columns is.0.0 columns schema is.0.3.0 (subst (λ r. AreColumns r schema) header has.3.0) in
    none (subst (λ cs. IsBadTwo cs bytes number b) same is.1)

-- where nothing is wrong in the version whose header the file has, nothing is wrong
pub good_told_one : (bytes : List ℕ) (schema : List Column) (number : ℕ) (told : Option BadRecord) → HasColumns one bytes schema
    → IfNone told ((b : BadRecord) → ¬ IsBadOne schema bytes number b) → IfNone told ((b : BadRecord) → ¬ IsBadSavedRecord bytes number b)
good_told_one bytes schema number (Some b) has none = tt
good_told_one bytes schema number None has none = λ b. good_file_one bytes schema number b has (none b)

pub good_told_two : (bytes : List ℕ) (schema : List Column) (number : ℕ) (told : Option BadRecord) → HasColumns two bytes schema
    → IfNone told ((b : BadRecord) → ¬ IsBadTwo schema bytes number b) → IfNone told ((b : BadRecord) → ¬ IsBadSavedRecord bytes number b)
good_told_two bytes schema number (Some b) has none = tt
good_told_two bytes schema number None has none = λ b. good_file_two bytes schema number b has (none b)

-- nor where the file has no header
pub no_header : (bytes : List ℕ) (number : ℕ) → ((columns : List Column) → ¬ HasColumns one bytes columns) → ((columns : List Column) → ¬ HasColumns two bytes columns) → (b : BadRecord) → ¬ IsBadSavedRecord bytes number b
no_header bytes number none_one none_two b (columns, inl is) = none_one columns is.0
no_header bytes number none_one none_two b (columns, inr is) = none_two columns is.0
