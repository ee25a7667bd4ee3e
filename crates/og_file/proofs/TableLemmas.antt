-- The rows of a table file, one after the other.
use Rattle.std.proofs.Common.{Bor, ◌≡◌, ◌∙◌, ◌+◌, ℕ, suc, List, [], ◌∷◌, ◌++◌, length, refl, ap}
use Rattle.csv.specs.declared.reader.Reader.{Reader}
use Rattle.og_value.specs.declared.schema.Column.{Column}
use Rattle.og_value.specs.declared.value.Value.{Value}
use Rattle.og_file.specs.Records.{Record, Begins, Each}
use Rattle.og_file.specs.Readers.{HasRead}
use Rattle.og_file.specs.TableFile.{AreCells, HasNames, IsRowFault, IsTableFault}
use Rattle.og_file.specs.declared.refusal.FileRefusal.{FileRefusal}
use Rattle.og_file.specs.declared.refusal.FileRefusal.TheVariants as refused

-- one record more
pub next_row : {A : Type 0} (is : Record → A → Type 0) (rs : List Record) (xs : List A) (r : Record) (x : A) → Each is rs xs → is r x → Each is (rs ++ r ∷ []) (xs ++ x ∷ [])
next_row is [] [] r x are one = (one, tt)
next_row is (r1 ∷ rs) (x1 ∷ xs) r x are one = (are.0, next_row is rs xs r x are.1 one)
next_row is [] (_ ∷ _) r x are one = absurd are
next_row is (_ ∷ _) [] r x are one = absurd are

-- there are as many records as values
pub as_many : {A : Type 0} (is : Record → A → Type 0) (rs : List Record) (xs : List A) → Each is rs xs → length xs ≡ length rs
as_many is [] [] are = refl
as_many is (r ∷ rs) (x ∷ xs) are = ap suc (as_many is rs xs are.1)
as_many is [] (_ ∷ _) are = absurd are
as_many is (_ ∷ _) [] are = absurd are

-- what a reader has read are the first records
pub begins : (bytes : List ℕ) (records : List Record) (reader : Reader (Bor (List ℕ))) → HasRead bytes records reader → Begins bytes records
begins bytes records reader has = (reader.state, has.3, has.5)

-- a record that is no row is the first such
pub first_fault : (cs : List Column) (bytes : List ℕ) (names : Record) (before : List Record) (fields : Record) (rows : List (List Value)) (number : ℕ) (e : FileRefusal)
    → number ≡ length rows + 2 → IsRowFault cs fields number e → HasNames cs names → Each (AreCells cs) before rows → Begins bytes (names ∷ before ++ fields ∷ []) → IsTableFault cs bytes e
first_fault cs bytes names before fields rows number refused.Header is fault has are begun = absurd fault
first_fault cs bytes names before fields rows number (refused.Cell found) is fault has are begun =
    (names, before, fields, rows, begun, has, are, fault.1, fault.0 ∙ is ∙ ap (λ n. n + 2) (as_many (AreCells cs) before rows are))
first_fault cs bytes names before fields rows number (refused.RowCount said found) is fault has are begun = absurd fault
first_fault cs bytes names before fields rows number refused.NoMemory is fault has are begun = tt
