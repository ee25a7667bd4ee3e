-- The rows of files have values of the kinds of their columns.
use Rattle.std.proofs.Common.{◌≡◌, ℕ, List, [], ◌∷◌, refl, ap, ap₂, inl, inr}
use Rattle.std.specs.List.{All}
use Rattle.std.proofs.lemmas.List.Elements.{All-nil, All-cons}
use Rattle.og_value.specs.Cells.{IsCell, kind_of}
use Rattle.og_value.specs.declared.kind.Kind.{Kind}
use Rattle.og_value.specs.declared.kind.Kind.TheVariants as k
use Rattle.og_value.specs.declared.schema.Column.{Column}
use Rattle.og_value.specs.declared.value.Value.{Value}
use Rattle.og_file.specs.Records.{Record, Each}
use Rattle.og_file.specs.TableFile.{AreCells}
use Rattle.og_file.specs.SavedFile.{Pair, Version, one, two, IsRow, IsSavedFile}
use Rattle.og_file.specs.Writing.{IsOfKinds}

-- a cell's value is of its kind
kind_is : (kind : Kind) (field : List ℕ) (value : Value) → IsCell kind field value → kind_of value ≡ kind
kind_is k.Int field value cell = ap kind_of cell.2
kind_is k.Text field value cell = ap kind_of cell.1
kind_is k.Date field value cell = ap kind_of cell.2
kind_is k.Period field value cell = ap kind_of cell.2

-- cells are of the kinds of their columns
pub cells_fit : (columns : List Column) (fields : Record) (values : List Value) → AreCells columns fields values → IsOfKinds columns values
cells_fit [] [] [] are = refl
cells_fit (c ∷ cs) (f ∷ fs) (x ∷ xs) are = ap₂ (λ k ks. k ∷ ks) (kind_is c.kind f x are.0) (cells_fit cs fs xs are.1)
cells_fit [] [] (_ ∷ _) are = absurd are
cells_fit [] (_ ∷ _) _ are = absurd are
cells_fit (_ ∷ _) [] _ are = absurd are
cells_fit (_ ∷ _) (_ ∷ _) [] are = absurd are

-- what holds of each record's value holds of all
pub each_fits : {A : Type 0} (is : Record → A → Type 0) (P : A → Type 0) → ((r : Record) (x : A) → is r x → P x) → (rs : List Record) (xs : List A) → Each is rs xs → All P xs
each_fits is P fits [] [] are = All-nil P
each_fits is P fits (r ∷ rs) (x ∷ xs) are = All-cons P x xs (fits r x are.0) (each_fits is P fits rs xs are.1)
each_fits is P fits [] (_ ∷ _) are = absurd are
each_fits is P fits (_ ∷ _) [] are = absurd are

pub table_fits : (columns : List Column) (rs : List Record) (rows : List (List Value)) → Each (AreCells columns) rs rows → All (IsOfKinds columns) rows
table_fits columns rs rows are = each_fits (AreCells columns) (IsOfKinds columns) (cells_fit columns) rs rows are

pub pair_fits : (version : Version) (columns : List Column) (rs : List Record) (pairs : List Pair) → Each (IsRow version columns) rs pairs → All (λ p. IsOfKinds columns p.0) pairs
pair_fits version columns rs pairs are = each_fits (IsRow version columns) (λ p. IsOfKinds columns p.0) (λ r p row. cells_fit columns row.0 p.0 row.3) rs pairs are

pub saved_fits : (bytes : List ℕ) (columns : List Column) (pairs : List Pair) → IsSavedFile bytes columns pairs → All (λ p. IsOfKinds columns p.0) pairs
saved_fits bytes columns pairs (inl file) = pair_fits one columns file.1 pairs file.4
saved_fits bytes columns pairs (inr file) = pair_fits two columns file.1 pairs file.5
