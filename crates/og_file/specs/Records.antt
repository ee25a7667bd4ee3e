-- The records of a file, as the crate csv reads them. A byte order mark at the front is no part of them.
use Rattle.std.specs.Prelude.{◌≡◌, ◌++◌, ◌+◌, ℕ, List, [], ◌∷◌, length}
use Rattle.csv.specs.Reading.{default_config, strip_bom, Reached, AreRecords}
use Rattle.csv.specs.declared.parser.State.{State}
use Rattle.csv.specs.declared.parser.State.TheVariants as st

-- a record is its fields
abbrev pub Record : Type 0
Record = List (List ℕ)

-- these are all the records of the bytes
abbrev pub AreAll : List ℕ → List Record → Type 0
AreAll bytes records = AreRecords default_config st.StartRecord (strip_bom bytes) records

-- these are the first records of the bytes
abbrev pub Begins : List ℕ → List Record → Type 0
Begins bytes records = (state : State) × (rest : List ℕ) × Reached default_config st.StartRecord (strip_bom bytes) records state rest

-- this is the record with that number, from 1
abbrev pub IsRecordAt : List ℕ → ℕ → Record → Type 0
IsRecordAt bytes number fields = (before : List Record) × Begins bytes (before ++ fields ∷ []) × (length before + 1 ≡ number)

-- each record is so of its value, in order
abbrev pub Each : {A : Type 0} → (Record → A → Type 0) → List Record → List A → Type 0
Each is [] [] = Unit {0}
Each is (r ∷ rs) (x ∷ xs) = is r x × Each is rs xs
Each is _ _ = ⊥
