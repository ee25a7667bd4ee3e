-- No saved file is a table file: a field of its first record has a colon, which no name of a column has.
use Rattle.std.proofs.Common.{◌≡◌, ◌++◌, ◌∷◌, ◌∙◌, [], ℕ, true, List, codes, map, ap, subst, inl, inr}
use Rattle.std.specs.Fmt.{decimal}
use Rattle.std.specs.List.{All}
use Rattle.std.proofs.lemmas.List.Elements.{All-head, All-tail}
use Rattle.og_value.specs.Words.{IsLowerWord, folded, is_word}
use Rattle.og_value.specs.declared.schema.Column.{Column}
use Rattle.og_value.specs.declared.value.Value.{Value}
use Rattle.og_file.specs.Records.{Record}
use Rattle.og_file.specs.SavedFile.{Pair, IsHeader, IsSavedFault, IsVersionOne, IsVersionTwo, mark}
use Rattle.og_file.specs.TableFile.{HasNames, IsTableFault, IsTableFile}
use Rattle.og_file.specs.declared.refusal.FileRefusal.TheVariants as refused
use Rattle.og_file.proofs.TableChoice.{begins}

-- the last name of columns is a word in letters of any case
last_is_word : (columns : List Column) (fields : Record) (field : List ℕ) → All (λ c. IsLowerWord c.name) columns → HasNames columns (fields ++ field ∷ []) → is_word (folded field) ≡ true
last_is_word [] [] field words has = cc has
last_is_word [] (f ∷ fields) field words has = cc has
last_is_word (c ∷ cs) [] field words has =
    let name : folded field ≡ c.name = cc has in
    ap is_word name ∙ (All-head (λ (c : Column). IsLowerWord c.name) c cs words).word
last_is_word (c ∷ cs) (f ∷ fields) field words has =
    let rest : map folded (fields ++ field ∷ []) ≡ map (λ c. c.name) cs = cc has in
    last_is_word cs fields field (All-tail (λ (c : Column). IsLowerWord c.name) c cs words) rest

-- the mark is no word
no_word : is_word (folded (codes "ongq:2")) ≡ true → ⊥
no_word e = cc e

-- nor is a number of rows
no_count : (count : ℕ) → is_word (folded (codes "rows:" ++ decimal count)) ≡ true → ⊥
no_count count e = cc e

-- the mark is not the names of columns
no_mark : (columns : List Column) → All (λ c. IsLowerWord c.name) columns → HasNames columns mark → ⊥
no_mark columns words has = no_word (last_is_word columns [] (codes "ongq:2") words has)

-- nor is a header of version 1
no_header : (columns saved : List Column) (header : Record) (count : ℕ) → All (λ c. IsLowerWord c.name) columns → IsHeader header saved count → HasNames columns header → ⊥
no_header columns saved header count words is has =
    let word = last_is_word columns is.0 is.1 words (subst (HasNames columns) is.2 has) in
    no_count count (subst (λ field. is_word (folded field) ≡ true) is.4.0 word)

pub no_table_file_one : (bytes : List ℕ) (columns saved : List Column) (pairs : List Pair) (count : ℕ) → All (λ c. IsLowerWord c.name) columns
    → IsVersionOne bytes saved pairs count → IsTableFault columns bytes refused.Header
no_table_file_one bytes columns saved pairs count words file =
    inr (file.0, begins bytes (file.0 ∷ []) file.1 file.2, no_header columns saved file.0 count words file.3)

pub no_table_file_two : (bytes : List ℕ) (columns saved : List Column) (pairs : List Pair) (count : ℕ) → All (λ c. IsLowerWord c.name) columns
    → IsVersionTwo bytes saved pairs count → IsTableFault columns bytes refused.Header
no_table_file_two bytes columns saved pairs count words file =
    inr (mark, begins bytes (mark ∷ []) (file.0 ∷ file.1 ++ (file.2 ∷ []) ∷ []) file.3, no_mark columns words)

pub no_saved_file : (bytes : List ℕ) (columns : List Column) (rows : List (List Value)) → All (λ c. IsLowerWord c.name) columns
    → IsTableFile columns bytes rows → IsSavedFault bytes refused.Header
no_saved_file bytes columns rows words file =
    inr (inl (
      file.0,
      begins bytes (file.0 ∷ []) file.1 file.2,
      (λ e. no_mark columns words (subst (HasNames columns) e file.3)),
      (λ saved count is. no_header columns saved file.0 count words is file.3),
    ))
