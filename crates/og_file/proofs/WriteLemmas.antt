-- What a writer of records has written after one more field and one more record.
use Rattle.std.proofs.Common.{◌≡◌, ◌≢◌, ◌<◌, ◌≤◌, ◌==◌, ◌&&◌, ◌+◌, ◌-◌, ◌^◌, ◌++◌, ◌∷◌, ◌∙◌, ℕ, Bool, true, false, not, min, List, [], Option, Some, None, Result, Ok, Err, OnOk, length, map, take, get_or, slice_get, if◌then◌else◌, refl, sym, ap, ap₂, inl, inr, arith, append_assoc, append-nil, length-append, Vec}
use Rattle.std.specs.Io.KnownBytes.{Appends}
use Rattle.std.specs.List.{All, list_any}
use Rattle.std.proofs.lemmas.List.Elements.{All-more, All-same}
use Rattle.std.specs.declared.alloc.Global.{Global}
use Rattle.std.proofs.lemmas.Bool.{cases_Bool, ne_eqb}
use Rattle.std.proofs.lemmas.List.{length-map, take_all, take_more}
use Rattle.std.proofs.lemmas.Option.{get_or_from_slice_get, slice_get-get_or, slice_get-map, slice_get_within}
use Rattle.csv.specs.Writing.{default_writer, writer_setup, fields_written, has_written, text_written, writer_under, writer_pending, escaped, field_text, fields_text, needs_byte, row_body, row_text, next_sep, tail_text, quote_mark, is_blank}
use Rattle.csv.specs.declared.writer.QuoteStyle.TheVariants as style
use Rattle.csv.specs.declared.writer.Writer.{Writer}
use Rattle.csv.proofs.RoundTrip.{rows_text}
use Rattle.csv.proofs.WriteFacts.{row-more}
use Rattle.og_file.specs.PlainFiles.{text_of_records}
use Rattle.og_file.specs.Writers.{HasText, HasFields, IsBegun, file_writer}

-- ---- a writer of records of any lengths writes each as the default writer does

escaped_same : (field : List ℕ) → escaped file_writer field ≡ escaped default_writer field
unfolding escaped
escaped_same [] = refl
escaped_same (b ∷ rest) = rw (escaped_same rest) refl

field_same : (field : List ℕ) → field_text file_writer field ≡ field_text default_writer field
field_same field = elim (cases_Bool (list_any (needs_byte default_writer) field)) [
  | inl needs ↦ rw (needs, escaped_same field) refl
  | inr plain ↦ rw plain refl
]

fields_same : (fields : List (List ℕ)) → fields_text file_writer fields ≡ fields_text default_writer fields
unfolding fields_text
fields_same [] = refl
fields_same (field ∷ fields) = ap₂ (λ x y. 44 ∷ x ++ y) (field_same field) (fields_same fields)

row_same : (fields : List (List ℕ)) → row_text file_writer fields ≡ row_text default_writer fields
unfolding is_blank
row_same [] = refl
row_same (one ∷ []) = rw (field_same one, fields_same []) refl
row_same (one ∷ two ∷ fields) = rw (field_same one, fields_same (two ∷ fields)) refl

-- ---- the fields and the end of a record

-- the text that a writer has written
abbrev pub text_in : Writer (Vec ℕ Global) → Option (List ℕ)
text_in w = text_written (λ (v : Vec ℕ Global). Some v.items) w

-- the style does not look at numbers
plain : file_writer.style ≢ style.NonNumeric
plain e = cc e

-- known bytes after an append
appended : (was now : Option (List ℕ)) (old more : List ℕ) → was ≡ Some old → Appends was now more → now ≡ Some (old ++ more)
appended None now old more is e = cc is
appended (Some before) None old more is e = absurd e
appended (Some before) (Some after) old more is e = cc (is, e)

-- a count that stops shows as well as the whole one whether a field is the first
sep_of_count : (fields : List (List ℕ)) → next_sep file_writer (min (length fields) (2 ^ 64 - 1)) ≡ next_sep file_writer (length fields)
sep_of_count [] = refl
sep_of_count (field ∷ fields) =
    rw (ne_eqb (min (length (field ∷ fields)) (2 ^ 64 - 1)) 0 (λ e. omega (arith, e)), ne_eqb (length (field ∷ fields)) 0 (λ e. omega (arith, e))) refl

-- whether some byte was written of a record of one field more
begun_more : (was now : Bool) (fields : List (List ℕ)) (field : List ℕ) → IsBegun was fields
    → (was ≡ false → now ≡ not (length (field_text file_writer field) == 0)) → IsBegun now (fields ++ field ∷ [])
begun_more was now [] field begun first = first begun
begun_more was now (one ∷ []) field begun first = tt
begun_more was now (one ∷ two ∷ fields) field begun first = tt

-- one field more
pub field_more : {T E : Type 0} (r : Result T E) (was now : Writer (Vec ℕ Global)) (field : List ℕ)
    → OnOk r ((writer_setup was).style ≢ style.NonNumeric → Appends (text_in was) (text_in now) (next_sep (writer_setup was) (fields_written was) ++ field_text (writer_setup was) field))
    → OnOk r (writer_setup now ≡ writer_setup was)
    → OnOk r (fields_written now ≡ min (fields_written was + 1) (2 ^ 64 - 1))
    → OnOk r (has_written was ≡ false → (writer_setup was).style ≢ style.NonNumeric → has_written now ≡ not (length (field_text (writer_setup was) field) == 0))
    → OnOk r ((text : List ℕ) (fields : List (List ℕ)) → HasFields was text fields → HasFields now text (fields ++ field ∷ []))
field_more (Err e) was now field appends same count wrote = tt
field_more (Ok v) was now field appends same count wrote = λ text fields had.
    let size = length-append fields (field ∷ []) in
    let more = rw (had.setup, had.count, sep_of_count fields) at (appends (rw had.setup plain)) in
    record {
      setup = same ∙ had.setup;
      count = count ∙ rw had.count (omega (arith, size));
      begun = begun_more (has_written was) (has_written now) fields field had.begun (λ none. rw had.setup at (wrote none (rw had.setup plain)));
      written =
          appended (text_in was) (text_in now) (text ++ row_body file_writer fields) _ had.written more
          ∙ ap Some (append_assoc text (row_body file_writer fields) _ ∙ ap (λ t. text ++ t) (sym (row-more file_writer fields field)));
    }

-- no field yet
pub no_field_yet : (w : Writer (Vec ℕ Global)) (text : List ℕ) → HasText w text → HasFields w text []
no_field_yet w text had = record {
  setup = had.setup;
  count = had.fields ∙ omega arith;
  begun = had.clean;
  written = had.written ∙ ap Some (sym (append-nil text));
}

-- what ends a record
tail_of_record : (wrote : Bool) (fields : List (List ℕ)) → IsBegun wrote fields
    → row_body file_writer fields ++ tail_text file_writer wrote (min (length fields) (2 ^ 64 - 1)) ≡ row_text file_writer fields
unfolding is_blank
tail_of_record wrote [] begun = rw begun refl
tail_of_record wrote (one ∷ []) begun = ap (λ t. row_body file_writer (one ∷ []) ++ t) (rw begun (blank (length (field_text file_writer one) == 0)))
  where
    blank : (b : Bool) → (if not (not b) && true then quote_mark ∷ quote_mark ∷ [] else []) ++ 10 ∷ [] ≡ (if b then quote_mark ∷ quote_mark ∷ [] else []) ++ 10 ∷ []
    blank true = refl
    blank false = refl
tail_of_record wrote (one ∷ two ∷ fields) begun =
    let count = min (length (one ∷ two ∷ fields)) (2 ^ 64 - 1) in
    ap (λ t. row_body file_writer (one ∷ two ∷ fields) ++ t) (rw (ne_eqb count 0 (λ e. omega (arith, e)), ne_eqb count 1 (λ e. omega (arith, e))) (none (not wrote)))
  where
    none : (b : Bool) → (if b && false then quote_mark ∷ quote_mark ∷ [] else []) ++ 10 ∷ [] ≡ 10 ∷ []
    none true = refl
    none false = refl

-- the end of a record
pub record_ended : {T E : Type 0} (r : Result T E) (was now : Writer (Vec ℕ Global)) (fields : List (List ℕ))
    → OnOk r (Appends (text_in was) (text_in now) (tail_text (writer_setup was) (has_written was) (fields_written was)))
    → OnOk r (fields_written now ≡ 0)
    → OnOk r (has_written now ≡ false)
    → OnOk r (writer_setup now ≡ writer_setup was)
    → OnOk r ((text : List ℕ) → HasFields was text fields → HasText now (text ++ row_text default_writer fields))
record_ended (Err e) was now fields appends none clean same = tt
record_ended (Ok v) was now fields appends none clean same = λ text had. record {
  setup = same ∙ had.setup;
  fields = none;
  clean = clean;
  written =
      appended (text_in was) (text_in now) (text ++ row_body file_writer fields) _ had.written (rw (had.setup, had.count) at appends)
      ∙ ap Some (append_assoc text (row_body file_writer fields) _ ∙ ap (λ t. text ++ t) (tail_of_record (has_written was) fields had.begun ∙ row_same fields));
}

-- a record that is written whole
pub record_written : {T E : Type 0} (r : Result T E) (was now : Writer (Vec ℕ Global)) (fields : List (List ℕ))
    → OnOk r (fields_written was ≡ 0 → has_written was ≡ false → (writer_setup was).style ≢ style.NonNumeric → Appends (text_in was) (text_in now) (row_text (writer_setup was) fields))
    → OnOk r (fields_written now ≡ 0)
    → OnOk r (has_written now ≡ false)
    → OnOk r (writer_setup now ≡ writer_setup was)
    → OnOk r ((text : List ℕ) → HasText was text → HasText now (text ++ row_text default_writer fields))
record_written (Err e) was now fields appends none clean same = tt
record_written (Ok v) was now fields appends none clean same = λ text had. record {
  setup = same ∙ had.setup;
  fields = none;
  clean = clean;
  written =
      appended (text_in was) (text_in now) text _ had.written (rw had.setup at (appends had.fields had.clean (rw had.setup plain)))
      ∙ ap Some (ap (λ t. text ++ t) (row_same fields));
}

-- the fields that a list's elements are written as, up to a place and one more
pub fields_next : {A B : Type 0} (f : A → B) (xs : List A) (i : ℕ) (x : A) → slice_get xs i ≡ Some x → take (i + 1) (map f xs) ≡ take i (map f xs) ++ f x ∷ []
fields_next f xs i x is =
    let it : slice_get (map f xs) i ≡ Some (f x) = slice_get-map f xs i ∙ rw is refl in
    take_more (map f xs) i (f x) (slice_get_within (map f xs) i (f x) it) ∙ ap (λ t. take i (map f xs) ++ t ∷ []) (get_or_from_slice_get (map f xs) i (f x) (f x) it)

-- and past the last place
pub fields_all : {A B : Type 0} (f : A → B) (xs : List A) (i : ℕ) → length xs ≤ i → take i (map f xs) ≡ map f xs
fields_all f xs i past = take_all i (map f xs) (rw (length-map xs f) past)

-- what holds of a list's elements, up to a place and one more
pub all_next : {A : Type 0} (P : A → Type 0) (xs : List A) (i : ℕ) (x : A) → slice_get xs i ≡ Some x → All P (take i xs) → P x → All P (take (i + 1) xs)
all_next P xs i x is all one = All-more P xs i x (slice_get_within xs i x is) all (rw (get_or_from_slice_get xs i x x is) one)

-- and past the last place
pub all_of : {A : Type 0} (P : A → Type 0) (xs : List A) (i : ℕ) → length xs ≤ i → All P (take i xs) → All P xs
all_of P xs i past all = All-same P xs (take i xs) (sym (take_all i xs past)) all

-- a pair whose parts are known
pub pair_at : {A B : Type 0} (pairs : List (A × B)) (i : ℕ) (x : A) (y : B) → i < length pairs
    → ((p : A × B) → x ≡ (get_or pairs i p).0) → ((p : A × B) → y ≡ (get_or pairs i p).1)
    → slice_get pairs i ≡ Some (x, y)
pair_at pairs i x y within is_first is_second = slice_get-get_or pairs i (x, y) within ∙ ap₂ (λ a b. Some (a, b)) (sym (is_first (x, y))) (sym (is_second (x, y)))

-- a new writer over no bytes has written nothing
pub new_writer : (w : Writer (Vec ℕ Global)) (under : Vec ℕ Global) → under.items ≡ [] → writer_under w ≡ under → writer_pending w ≡ [] → writer_setup w ≡ file_writer
    → fields_written w ≡ 0 → has_written w ≡ false → HasText w (rows_text [])
unfolding rows_text
new_writer w under none over pending setup fields clean = record { setup = setup; fields = fields; clean = clean; written = rw (over, none, pending) refl }

-- one record more
pub rows_push : (rows : List (List (List ℕ))) (row : List (List ℕ)) → rows_text (rows ++ row ∷ []) ≡ rows_text rows ++ row_text default_writer row
unfolding rows_text
rows_push [] row = append-nil (row_text default_writer row)
rows_push (first ∷ rows) row = ap (λ t. row_text default_writer first ++ t) (rows_push rows row) ∙ sym (append_assoc (row_text default_writer first) (rows_text rows) (row_text default_writer row))

-- the same, by its definition here
pub rows_text-plain : (rows : List (List (List ℕ))) → rows_text rows ≡ text_of_records rows
unfolding rows_text text_of_records
rows_text-plain [] = refl
rows_text-plain (row ∷ rows) = ap (λ t. row_text default_writer row ++ t) (rows_text-plain rows)
