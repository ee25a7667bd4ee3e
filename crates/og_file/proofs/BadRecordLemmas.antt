-- What is wrong with a record of a file.
use Rattle.std.proofs.Common.{◌≡◌, ◌≢◌, ◌≤◌, ◌+◌, ◌∙◌, ℕ, zero, suc, List, [], ◌∷◌, ◌++◌, Option, Some, None, length, refl, ap, subst, arith}
use Rattle.std.specs.Option.{IfSome}
use Rattle.std.proofs.lemmas.List.{length-append}
use Rattle.og_base.specs.Ranges.{Range}
use Rattle.og_value.specs.declared.schema.Column.{Column}
use Rattle.og_value.specs.declared.value.Value.{Value}
use Rattle.og_file.specs.BadRecords.{IsBadSavedRow, IsBadTwo}
use Rattle.og_file.specs.Records.{Record, AreAll, IsRecordAt}
use Rattle.og_file.specs.SavedFile.{IsCount, IsDays, IsNoRow, Version, two}
use Rattle.og_file.specs.SavedParts.{IsEnd}
use Rattle.og_file.specs.TableFile.{AreCells}
use Rattle.og_file.specs.declared.bad_records.BadRecord.{BadRecord}
use Rattle.og_file.specs.declared.bad_records.BadRecord.TheVariants as bad
use Rattle.og_file.proofs.OneLists.{begins_all}

-- behind all records there is none
pub none_behind : (bytes : List ℕ) (all : List Record) (number : ℕ) → AreAll bytes all → length all + 1 ≤ number → (fields : Record) → ¬ IsRecordAt bytes number fields
none_behind bytes all number are less fields at =
    let whole = begins_all bytes (at.0 ++ fields ∷ []) all at.1 are in
    far (length all) (length at.0) (length whole.0) (ap length whole.1 ∙ length-append (at.0 ++ fields ∷ []) whole.0 ∙ ap (λ n. n + length whole.0) (length-append at.0 (fields ∷ []))) at.2 less
  where
    far : (n before rest : ℕ) → n ≡ before + 1 + rest → before + 1 ≡ number → n + 1 ≤ number → ⊥
    far n before rest long counted less = omega (arith, long, counted, less)

-- one field more is one behind the others
one_behind : (fs : Record) (n : ℕ) → length fs ≡ n + 1 → (cells : Record) × (field : List ℕ) × (length cells ≡ n) × (fs ≡ cells ++ field ∷ [])
one_behind [] n long = absurd (nothing n long)
  where
    nothing : (n : ℕ) → 0 ≡ n + 1 → ⊥
    nothing n long = omega (arith, long)
one_behind (f ∷ []) n long = ([], f, none n long, refl)
  where
    none : (n : ℕ) → 1 ≡ n + 1 → 0 ≡ n
    none n long = omega (arith, long)
one_behind (f ∷ g ∷ fs) zero long = absurd (more (length fs) long)
  where
    more : (n : ℕ) → suc (suc n) ≡ 0 + 1 → ⊥
    more n long = omega (arith, long)
one_behind (f ∷ g ∷ fs) (suc n) long =
    let rest = one_behind (g ∷ fs) n (less (length fs) n long) in
    (f ∷ rest.0, rest.1, ap suc rest.2, ap (λ l. f ∷ l) rest.3)
  where
    less : (m n : ℕ) → suc (suc m) ≡ suc n + 1 → suc m ≡ n + 1
    less m n long = omega (arith, long)

-- where no field is the one behind n others, there are not n + 1
pub other_count : (fs : Record) (n : ℕ) → ((cells : Record) (field : List ℕ) → length cells ≡ n → ¬ (fs ≡ cells ++ field ∷ [])) → length fs ≢ n + 1
other_count fs n none long = let last = one_behind fs n long in none last.0 last.1 last.2 last.3

-- of a record that is no row, and whose cells are those of a row, the days are none
pub no_days : (version : Version) (columns : List Column) (fs cells : Record) (field : List ℕ) (row : List Value) → IsNoRow version columns fs
    → fs ≡ cells ++ field ∷ [] → AreCells columns cells row → (days : List Range) → ¬ IsDays version field days
no_days version columns fs cells field row none is are days has = none (row, days) (cells, field, is, are, has)

-- what is wrong with a row of version 2 is wrong with its record
pub bad_row_two : (columns : List Column) (bytes : List ℕ) (number : ℕ) (fields : Record) (told : BadRecord) → 3 ≤ number → IsRecordAt bytes number fields
    → ((field : List ℕ) (count : ℕ) → fields ≡ field ∷ [] → ¬ IsCount field count) → IsBadSavedRow two columns fields told → IsBadTwo columns bytes number told
bad_row_two columns bytes number fields (bad.Fields wanted found) far at none is = (far, fields, at, none, is)
bad_row_two columns bytes number fields (bad.Cell column text) far at none is = (far, fields, at, none, is)
bad_row_two columns bytes number fields (bad.Days text) far at none is = (far, fields, at, none, is)
bad_row_two columns bytes number fields bad.Missing far at none is = absurd is
bad_row_two columns bytes number fields bad.NotLast far at none is = absurd is

-- where another record follows the one that says the number of rows, that is what is wrong
pub bad_end_two : (columns : List Column) (bytes : List ℕ) (number : ℕ) (fields : Record) (count : ℕ) (told : Option BadRecord) → 3 ≤ number → IsRecordAt bytes number fields → IsEnd fields count
    → IfSome told (λ t. (t ≡ bad.NotLast) × (next : Record) × IsRecordAt bytes (number + 1) next) → IfSome told (IsBadTwo columns bytes number)
bad_end_two columns bytes number fields count None far at end is = tt
bad_end_two columns bytes number fields count (Some t) far at end is =
    rw is.0 (far, end.0, count, is.1, subst (λ r. IsRecordAt bytes number r) end.1 at, end.2, is.2)
