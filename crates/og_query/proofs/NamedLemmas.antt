-- The rows of a name, found place by place, and rows joined table by table.
use Rattle.std.proofs.Common.{◌≡◌, ◌++◌, ◌<◌, ◌≤◌, ℕ, zero, suc, min, false, List, [], ◌∷◌, length, get_or, take, drop, map, slice_index_or, if◌then◌else◌, refl, sym, ap, subst, ◌∙◌, Vec, Global, arith}
use Rattle.std.specs.Str.{bytes_eq}
use Rattle.std.proofs.lemmas.List.{append-nil, append_assoc}
use Rattle.og_query.specs.Queries.{Fixed}
use Rattle.og_query.specs.Tables.{rows_of, tables_in}
use Rattle.og_query.specs.Walk.{row_from}

-- the name at the place is another, so the rows are those that stand behind it
pub not_here : (names : List (List ℕ)) (tables : List (Vec Fixed Global)) (name other : List ℕ) (i m : ℕ) → m ≡ suc i → i < length names → i < length tables
    → other ≡ get_or names i other → bytes_eq other name ≡ false → rows_of (drop i names) (tables_in (drop i tables)) name ≡ rows_of (drop m names) (tables_in (drop m tables)) name
not_here names tables name other i m e k l is other_one = subst (λ m. rows_of (drop i names) (tables_in (drop i tables)) name ≡ rows_of (drop m names) (tables_in (drop m tables)) name) (sym e) (at names tables i k l is)
  where
    at : (names : List (List ℕ)) (tables : List (Vec Fixed Global)) (i : ℕ) → i < length names → i < length tables → other ≡ get_or names i other
        → rows_of (drop i names) (tables_in (drop i tables)) name ≡ rows_of (drop (suc i) names) (tables_in (drop (suc i) tables)) name
    at [] tables i k l is = absurd (omega (arith, k))
    at (n ∷ names) [] i k l is = absurd (omega (arith, l))
    at (n ∷ names) (t ∷ tables) zero k l is = ap (λ b. if b then t.items else rows_of names (tables_in tables) name) (ap (λ o. bytes_eq o name) (sym is) ∙ other_one)
    at (n ∷ names) (t ∷ tables) (suc i) k l is = at names tables i (omega (arith, k)) (omega (arith, l)) is

-- no table has no rows of any name
of_no_table : (names : List (List ℕ)) (name : List ℕ) → rows_of names [] name ≡ []
of_no_table [] name = refl
of_no_table (n ∷ names) name = refl

-- behind the last name, or the last table, no rows are left
pub none_behind : (names : List (List ℕ)) (tables : List (Vec Fixed Global)) (name : List ℕ) (i : ℕ) → min (length names) (length tables) ≤ i → rows_of (drop i names) (tables_in (drop i tables)) name ≡ []
none_behind [] tables name zero l = refl
none_behind [] tables name (suc i) l = refl
none_behind (n ∷ names) [] name zero l = refl
none_behind (n ∷ names) [] name (suc i) l = of_no_table (drop i names) name
none_behind (n ∷ names) (t ∷ tables) name zero l = absurd (omega (arith, l))
none_behind (n ∷ names) (t ∷ tables) name (suc i) l = none_behind names tables name i (omega (arith, l))

-- the row of one more table
pub row_more : {A U : Type 0} (rows : A → List (List U)) (xs : List A) (places : List ℕ) (i m : ℕ) (x : A) → m ≡ suc i → i < length xs → i < length places → x ≡ get_or xs i x
    → row_from (map rows (take m xs)) (take m places) ≡ row_from (map rows (take i xs)) (take i places) ++ slice_index_or (rows x) (get_or places i 0) []
row_more {A = A} rows xs places i m x e k l is =
    subst (λ m. row_from (map rows (take m xs)) (take m places) ≡ row_from (map rows (take i xs)) (take i places) ++ slice_index_or (rows x) (get_or places i 0) []) (sym e) (at xs places i k l is)
  where
    at : (xs : List A) (places : List ℕ) (i : ℕ) → i < length xs → i < length places → x ≡ get_or xs i x
        → row_from (map rows (take (suc i) xs)) (take (suc i) places) ≡ row_from (map rows (take i xs)) (take i places) ++ slice_index_or (rows x) (get_or places i 0) []
    at [] places i k l is = absurd (omega (arith, k))
    at (y ∷ ys) [] i k l is = absurd (omega (arith, l))
    at (y ∷ ys) (p ∷ places) zero k l is = append-nil (slice_index_or (rows y) p []) ∙ ap (λ z. slice_index_or (rows z) p []) (sym is)
    at (y ∷ ys) (p ∷ places) (suc i) k l is =
        ap (λ row. slice_index_or (rows y) p [] ++ row) (at ys places i (omega (arith, k)) (omega (arith, l)) is)
        ∙ sym (append_assoc (slice_index_or (rows y) p []) (row_from (map rows (take i ys)) (take i places)) (slice_index_or (rows x) (get_or places i 0) []))
