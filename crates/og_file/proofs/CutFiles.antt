-- A saved file that is cut between two records is no saved file any more, and has a fault by where it is cut.
use Rattle.std.proofs.Common.{◌≡◌, ◌≢◌, ◌+◌, ◌∙◌, ℕ, zero, suc, List, [], ◌∷◌, ◌++◌, length, refl, sym, ap, ap₂, subst, arith, inl, inr}
use Rattle.std.proofs.lemmas.List.{length-append}
use Rattle.og_value.specs.declared.schema.Column.{Column}
use Rattle.og_file.specs.CutFiles.{cut_fault_one, cut_fault_two}
use Rattle.og_file.specs.Records.{Record, AreAll, Each}
use Rattle.og_file.specs.SavedFile.{Pair, AreSchema, IsHeader, IsRow, IsSavedFault, IsSavedFile, IsVersionOne, IsVersionTwo, mark, one, two}
use Rattle.og_file.specs.declared.refusal.FileRefusal.TheVariants as refused
use Rattle.og_file.proofs.NoFaults.{no_saved_fault}
use Rattle.og_file.proofs.OneLists.{behind, one_list}
use Rattle.og_file.proofs.TableLemmas.{as_many}

-- what stands before a record stands before the last one
before_last : (rows : List Record) (last : Record) (front : List Record) (next : Record) (rest : List Record)
    → rows ++ last ∷ [] ≡ front ++ next ∷ rest → (after : List Record) × (rows ≡ front ++ after)
before_last rows last [] next rest e = (rows, refl)
before_last [] last (f ∷ []) next rest e = cc e
before_last [] last (f ∷ g ∷ front) next rest e = cc e
before_last (r ∷ rows) last (f ∷ front) next rest e =
    let same = behind r f (rows ++ last ∷ []) (front ++ next ∷ rest) e in
    let more = before_last rows last front next rest same.1 in
    (more.0, ap₂ (λ x l. x ∷ l) same.0 more.1)

-- the values of the first records
front_values : {A : Type 0} (is : Record → A → Type 0) (front rest : List Record) (xs : List A) → Each is (front ++ rest) xs → (ys : List A) × Each is front ys
front_values is [] rest xs are = ([], tt)
front_values is (r ∷ front) rest [] are = absurd are
front_values is (r ∷ front) rest (x ∷ xs) are = let more = front_values is front rest xs are.1 in (x ∷ more.0, (are.0, more.1))

-- the same, of records that are those
values_before : {A : Type 0} (is : Record → A → Type 0) (rows front rest : List Record) (xs : List A) → rows ≡ front ++ rest → Each is rows xs → (ys : List A) × Each is front ys
values_before is rows front rest xs e are = front_values is front rest xs (subst (λ l. Each is l xs) e are)

-- ---- version 1

fewer : (n m a b : ℕ) → n ≡ b → b ≡ m + suc a → n ≡ m → ⊥
fewer n m a b counted more same = omega (arith, counted, more, same)

cut_one : (header : Record) (rows front : List Record) (next : Record) (rest : List Record) (columns : List Column) (pairs : List Pair) (cut : List ℕ)
    → header ∷ rows ≡ front ++ next ∷ rest → AreAll cut front → IsHeader header columns (length pairs) → Each (IsRow one columns) rows pairs
    → IsSavedFault cut (cut_fault_one (length pairs) (length front))
cut_one header rows [] next rest columns pairs cut e are is each = inl are
cut_one header rows (f ∷ front) next rest columns pairs cut e are is each =
    let same = behind header f rows (front ++ next ∷ rest) e in
    let left = values_before (IsRow one columns) rows front (next ∷ rest) pairs same.1 each in
    let counted = as_many (IsRow one columns) rows pairs each in
    let more = ap length same.1 ∙ length-append front (next ∷ rest) in (
      columns,
      left.0,
      inl (f, front, are, subst (λ r. IsHeader r columns (length pairs)) same.0 is, left.1),
      sym (as_many (IsRow one columns) front left.0 left.1),
      fewer (length pairs) (length front) (length rest) (length rows) counted more,
    )

pub fault_one : (whole cut : List ℕ) (columns : List Column) (pairs : List Pair) (front rest : List Record) → IsVersionOne whole columns pairs (length pairs)
    → AreAll whole (front ++ rest) → rest ≢ [] → AreAll cut front → IsSavedFault cut (cut_fault_one (length pairs) (length front))
fault_one whole cut columns pairs front [] file are some cut_are = absurd (some refl)
fault_one whole cut columns pairs front (next ∷ rest) file are some cut_are =
    cut_one file.0 file.1 front next rest columns pairs cut (one_list whole _ _ file.2 are) cut_are file.3 file.4

-- ---- version 2

cut_two : (header : Record) (rows : List Record) (field : List ℕ) (front : List Record) (next : Record) (rest : List Record) (columns : List Column) (pairs : List Pair) (cut : List ℕ)
    → mark ∷ header ∷ rows ++ (field ∷ []) ∷ [] ≡ front ++ next ∷ rest → AreAll cut front → AreSchema header columns → Each (IsRow two columns) rows pairs
    → IsSavedFault cut (cut_fault_two (length front))
cut_two header rows field [] next rest columns pairs cut e are is each = inl are
cut_two header rows field (f ∷ []) next rest columns pairs cut e are is each =
    let same = behind mark f (header ∷ rows ++ (field ∷ []) ∷ []) (next ∷ rest) e in
    inr (inr (inl (subst (λ r. AreAll cut (r ∷ [])) (sym same.0) are)))
cut_two header rows field (f ∷ g ∷ front) next rest columns pairs cut e are is each =
    let first = behind mark f (header ∷ rows ++ (field ∷ []) ∷ []) (g ∷ front ++ next ∷ rest) e in
    let second = behind header g (rows ++ (field ∷ []) ∷ []) (front ++ next ∷ rest) first.1 in
    let before = before_last rows (field ∷ []) front next rest second.1 in
    let left = values_before (IsRow two columns) rows front before.0 pairs before.1 each in
    let marked = subst (λ r. AreAll cut (r ∷ g ∷ front)) (sym first.0) are in
    inr (inr (header, front, columns, left.0, subst (λ r. AreAll cut (mark ∷ r ∷ front)) (sym second.0) marked, is, left.1, refl))

pub fault_two : (whole cut : List ℕ) (columns : List Column) (pairs : List Pair) (front rest : List Record) → IsVersionTwo whole columns pairs (length pairs)
    → AreAll whole (front ++ rest) → rest ≢ [] → AreAll cut front → IsSavedFault cut (cut_fault_two (length front))
fault_two whole cut columns pairs front [] file are some cut_are = absurd (some refl)
fault_two whole cut columns pairs front (next ∷ rest) file are some cut_are =
    cut_two file.0 file.1 file.2 front next rest columns pairs cut (one_list whole _ _ file.3 are) cut_are file.4 file.5

-- ---- both

-- the faults are not that memory ran out
not_memory_one : (rows left : ℕ) → cut_fault_one rows left ≢ refused.NoMemory
not_memory_one rows zero e = cc e
not_memory_one rows (suc found) e = cc e

not_memory_two : (left : ℕ) → cut_fault_two left ≢ refused.NoMemory
not_memory_two zero e = cc e
not_memory_two (suc zero) e = cc e
not_memory_two (suc (suc found)) e = cc e

pub a_cut_file_one : (whole cut : List ℕ) (columns : List Column) (pairs : List Pair) (front rest : List Record) → IsVersionOne whole columns pairs (length pairs)
    → AreAll whole (front ++ rest) → rest ≢ [] → AreAll cut front → (cs : List Column) (ps : List Pair) → ¬ IsSavedFile cut cs ps
a_cut_file_one whole cut columns pairs front rest file are some cut_are cs ps saved =
    not_memory_one (length pairs) (length front) (no_saved_fault cut cs ps _ saved (fault_one whole cut columns pairs front rest file are some cut_are))

pub a_cut_file_two : (whole cut : List ℕ) (columns : List Column) (pairs : List Pair) (front rest : List Record) → IsVersionTwo whole columns pairs (length pairs)
    → AreAll whole (front ++ rest) → rest ≢ [] → AreAll cut front → (cs : List Column) (ps : List Pair) → ¬ IsSavedFile cut cs ps
a_cut_file_two whole cut columns pairs front rest file are some cut_are cs ps saved =
    not_memory_two (length front) (no_saved_fault cut cs ps _ saved (fault_two whole cut columns pairs front rest file are some cut_are))
