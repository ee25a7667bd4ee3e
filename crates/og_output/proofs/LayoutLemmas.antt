-- Rows that fit the same columns and differ are laid out differently.
use Rattle.std.proofs.Common.{◌≡◌, ◌∷◌, ◌∙◌, ℕ, List, [], Some, None, map, refl, sym, ap, ap₂}
use Rattle.std.specs.List.{All, AllByRecursion}
use Rattle.std.proofs.lemmas.List.Elements.{recursion_from_All}
use Rattle.std.proofs.lemmas.Option.{same_Some}
use Rattle.csv.specs.Machine.{Read, next_record}
use Rattle.csv.specs.Reading.{default_config}
use Rattle.csv.specs.Writing.{read_back}
use Rattle.csv.specs.declared.parser.State.TheVariants as st
use Rattle.csv.proofs.RoundTrip.{read-write}
use Rattle.og_value.specs.Cells.{IsFixed, fixed_text}
use Rattle.og_value.specs.Order.{rank}
use Rattle.og_value.specs.declared.kind.Kind.{Kind}
use Rattle.og_value.specs.declared.kind.Kind.TheVariants as k
use Rattle.og_value.specs.declared.schema.Column.{Column}
use Rattle.og_value.specs.declared.value.FixedValue.{FixedValue}
use Rattle.og_value.specs.declared.value.FixedValue.TheVariants as f
use Rattle.og_query.specs.Kinds.{fixed_kind}
use Rattle.og_query.specs.Queries.{Fixed}
use Rattle.og_db.specs.Fits.{IsFitFixed}
use Rattle.og_output.specs.Records.{layout, records}

-- no record is read where nothing was written
none_left : next_record default_config st.StartRecord [] [] [] ≡ None
unfolding next_record
none_left = refl

-- the first record, and the text of those after it
reads : (row : List (List ℕ)) (rows : List (List (List ℕ))) → next_record default_config st.StartRecord [] [] (records (row ∷ rows)) ≡ Some (read_back row, st.StartRecord, records rows)
unfolding records
reads row rows = read-write row (records rows)

-- records with one text are read back as the same ones
pub same_records : (a b : List (List (List ℕ))) → records a ≡ records b → map read_back a ≡ map read_back b
unfolding records
same_records [] [] e = refl
same_records [] (y ∷ b) e = cc (sym none_left ∙ ap (next_record default_config st.StartRecord [] []) e ∙ reads y b)
same_records (x ∷ a) [] e = cc (sym none_left ∙ ap (next_record default_config st.StartRecord [] []) (sym e) ∙ reads x a)
same_records (x ∷ a) (y ∷ b) e =
    let same = same_Some _ _ (sym (reads x a) ∙ ap (next_record default_config st.StartRecord [] []) e ∙ reads y b) in
    ap₂ (λ r rs. r ∷ rs) (ap (λ (r : Read). r.0) same) (same_records a b (ap (λ (r : Read). r.2) same))

-- the place of a kind in the order of values
abbrev rank_of : Kind → ℕ
rank_of k.Int = 0
rank_of k.Text = 1
rank_of k.Date = 2
rank_of k.Period = 3

rank_is : (x : FixedValue) → rank x ≡ rank_of (fixed_kind x)
rank_is (f.Int n) = refl
rank_is (f.Text t) = refl
rank_is (f.Date a) = refl
rank_is (f.Period p) = refl

-- a row that fits the columns, of values of the calendar
abbrev pub IsWell : List Column → Fixed → Type 0
IsWell columns row = IsFitFixed columns row × All IsFixed row

module _ (one_text : (x y : FixedValue) → IsFixed x → IsFixed y → rank x ≡ rank y → fixed_text x ≡ fixed_text y → x ≡ y) where
  -- values of the same kinds with the same texts are the same
  same_values : (xs ys : Fixed) → AllByRecursion IsFixed xs → AllByRecursion IsFixed ys → map fixed_kind xs ≡ map fixed_kind ys → map fixed_text xs ≡ map fixed_text ys → xs ≡ ys
  same_values [] [] p q kinds texts = refl
  same_values [] (y ∷ ys) p q kinds texts = cc kinds
  same_values (x ∷ xs) [] p q kinds texts = cc kinds
  same_values (x ∷ xs) (y ∷ ys) p q kinds texts =
      let kind : fixed_kind x ≡ fixed_kind y = cc kinds in
      let text : fixed_text x ≡ fixed_text y = cc texts in
      let rest_kinds : map fixed_kind xs ≡ map fixed_kind ys = cc kinds in
      let rest_texts : map fixed_text xs ≡ map fixed_text ys = cc texts in
      ap₂ (λ z zs. z ∷ zs) (one_text x y p.0 q.0 (rank_is x ∙ ap rank_of kind ∙ sym (rank_is y)) text) (same_values xs ys p.1 q.1 rest_kinds rest_texts)

  -- so are rows of the same kinds whose records are read back as the same
  same_row : (xs ys : Fixed) → AllByRecursion IsFixed xs → AllByRecursion IsFixed ys → map fixed_kind xs ≡ map fixed_kind ys → read_back (map fixed_text xs) ≡ read_back (map fixed_text ys) → xs ≡ ys
  same_row [] [] p q kinds texts = refl
  same_row [] (y ∷ ys) p q kinds texts = cc kinds
  same_row (x ∷ xs) [] p q kinds texts = cc kinds
  same_row (x ∷ xs) (y ∷ ys) p q kinds texts = same_values (x ∷ xs) (y ∷ ys) p q kinds texts

  module _ (columns : List Column) where
    same_rows : (xs ys : List Fixed) → AllByRecursion (IsWell columns) xs → AllByRecursion (IsWell columns) ys → map read_back (map (map fixed_text) xs) ≡ map read_back (map (map fixed_text) ys) → xs ≡ ys
    same_rows [] [] p q e = refl
    same_rows [] (y ∷ ys) p q e = cc e
    same_rows (x ∷ xs) [] p q e = cc e
    same_rows (x ∷ xs) (y ∷ ys) p q e =
        let one : read_back (map fixed_text x) ≡ read_back (map fixed_text y) = cc e in
        let rest : map read_back (map (map fixed_text) xs) ≡ map read_back (map (map fixed_text) ys) = cc e in
        ap₂ (λ z zs. z ∷ zs) (same_row x y (recursion_from_All IsFixed x p.0.1) (recursion_from_All IsFixed y q.0.1) (p.0.0 ∙ sym q.0.0) one) (same_rows xs ys p.1 q.1 rest)

    -- rows with one layout are the same
    pub one_layout : (xs ys : List Fixed) → All (IsWell columns) xs → All (IsWell columns) ys → layout columns xs ≡ layout columns ys → xs ≡ ys
    one_layout xs ys p q e =
        let header = map (λ (column : Column). column.name) columns in
        let all : read_back header ∷ map read_back (map (map fixed_text) xs) ≡ read_back header ∷ map read_back (map (map fixed_text) ys) =
        same_records (header ∷ map (map fixed_text) xs) (header ∷ map (map fixed_text) ys) e in
        let rows : map read_back (map (map fixed_text) xs) ≡ map read_back (map (map fixed_text) ys) = cc all in
        same_rows xs ys (recursion_from_All (IsWell columns) xs p) (recursion_from_All (IsWell columns) ys q) rows
