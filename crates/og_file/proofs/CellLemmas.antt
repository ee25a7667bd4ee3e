-- The cells of a record, one after the other.
use Rattle.std.proofs.Common.{◌≡◌, ◌+◌, ◌<◌, ◌∙◌, ℕ, zero, suc, List, [], ◌∷◌, ◌++◌, Some, None, length, take, refl, ap, slice_get, arith}
use Rattle.csv.specs.Records.{field_at}
use Rattle.og_value.specs.Cells.{IsCell}
use Rattle.og_value.specs.declared.schema.Column.{Column}
use Rattle.og_value.specs.declared.value.Value.{Value}
use Rattle.og_file.specs.Records.{Record}
use Rattle.og_file.specs.TableFile.{AreCells}

one_more : (i : ℕ) → i + 1 ≡ suc i
one_more i = omega (arith)

below : (i n : ℕ) → suc i < suc n → i < n
below i n less = omega (arith, less)

columns_to : (cs : List Column) (i : ℕ) (c : Column) → slice_get cs i ≡ Some c → take (suc i) cs ≡ take i cs ++ c ∷ []
columns_to [] i c e = cc e
columns_to (y ∷ ys) zero c e = let same : y ≡ c = cc e in ap (λ z. z ∷ []) same
columns_to (y ∷ ys) (suc i) c e = ap (λ xs. y ∷ xs) (columns_to ys i c e)

-- the columns up to the next one
pub next_column : (cs : List Column) (i : ℕ) (c : Column) → slice_get cs i ≡ Some c → take (i + 1) cs ≡ take i cs ++ c ∷ []
next_column cs i c e = ap (λ n. take n cs) (one_more i) ∙ columns_to cs i c e

fields_to : (fs : Record) (i : ℕ) (f : List ℕ) → field_at fs i ≡ Some f → take (suc i) fs ≡ take i fs ++ f ∷ []
unfolding field_at
fields_to [] i f e = cc e
fields_to (y ∷ ys) zero f e = let same : y ≡ f = cc e in ap (λ z. z ∷ []) same
fields_to (y ∷ ys) (suc i) f e = ap (λ xs. y ∷ xs) (fields_to ys i f e)

-- the fields up to the next one
pub next_field : (fs : Record) (i : ℕ) (f : List ℕ) → field_at fs i ≡ Some f → take (i + 1) fs ≡ take i fs ++ f ∷ []
next_field fs i f e = ap (λ n. take n fs) (one_more i) ∙ fields_to fs i f e

-- one cell more
pub next_cell : (cs : List Column) (fs : Record) (xs : List Value) (c : Column) (f : List ℕ) (x : Value) → AreCells cs fs xs → IsCell c.kind f x → AreCells (cs ++ c ∷ []) (fs ++ f ∷ []) (xs ++ x ∷ [])
next_cell [] [] [] c f x are is = (is, tt)
next_cell (c1 ∷ cs) (f1 ∷ fs) (x1 ∷ xs) c f x are is = (are.0, next_cell cs fs xs c f x are.1 is)
next_cell [] [] (_ ∷ _) c f x are is = absurd are
next_cell [] (_ ∷ _) _ c f x are is = absurd are
next_cell (_ ∷ _) [] _ c f x are is = absurd are
next_cell (_ ∷ _) (_ ∷ _) [] c f x are is = absurd are

-- the cell of a column
pub cell_at : (cs : List Column) (fs : Record) (xs : List Value) (n i : ℕ) (c : Column) (f : List ℕ) → AreCells cs (take n fs) xs → slice_get cs i ≡ Some c → field_at fs i ≡ Some f → (x : Value) × IsCell c.kind f x
unfolding field_at
cell_at [] fs xs n i c f are is at = cc is
cell_at (c1 ∷ cs) [] xs n i c f are is at = cc at
cell_at (c1 ∷ cs) (f1 ∷ fs) xs zero i c f are is at = absurd are
cell_at (c1 ∷ cs) (f1 ∷ fs) [] (suc n) i c f are is at = absurd are
cell_at (c1 ∷ cs) (f1 ∷ fs) (x1 ∷ xs) (suc n) zero c f are is at =
    let same : c1 ≡ c = cc is in
    let one : f1 ≡ f = cc at in
    (x1, rw (← same, ← one) are.0)
cell_at (c1 ∷ cs) (f1 ∷ fs) (x1 ∷ xs) (suc n) (suc i) c f are is at = cell_at cs fs xs n i c f are.1 is at

-- there are as many fields as columns
pub as_long : (cs : List Column) (fs : Record) (xs : List Value) → AreCells cs fs xs → length fs ≡ length cs
as_long [] [] [] are = refl
as_long (c ∷ cs) (f ∷ fs) (x ∷ xs) are = ap suc (as_long cs fs xs are.1)
as_long [] [] (_ ∷ _) are = absurd are
as_long [] (_ ∷ _) _ are = absurd are
as_long (_ ∷ _) [] _ are = absurd are
as_long (_ ∷ _) (_ ∷ _) [] are = absurd are

none_below : (i : ℕ) → i < 0 → ⊥
none_below i less = omega (arith, less)

-- a column has a field
pub no_field : (cs : List Column) (fs : Record) (xs : List Value) (n i : ℕ) → AreCells cs (take n fs) xs → i < length cs → field_at fs i ≡ None → ⊥
unfolding field_at
no_field [] fs xs n i are less none = none_below i less
no_field (c ∷ cs) [] xs zero i are less none = are
no_field (c ∷ cs) [] xs (suc n) i are less none = are
no_field (c ∷ cs) (f ∷ fs) xs zero i are less none = are
no_field (c ∷ cs) (f ∷ fs) [] (suc n) i are less none = are
no_field (c ∷ cs) (f ∷ fs) (x ∷ xs) (suc n) zero are less none = cc none
no_field (c ∷ cs) (f ∷ fs) (x ∷ xs) (suc n) (suc i) are less none = no_field cs fs xs n i are.1 (below i (length cs) less) none
