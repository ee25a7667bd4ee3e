-- The records of saved files.
use Rattle.std.proofs.Common.{◌≡◌, ◌≢◌, ◌∙◌, ◌+◌, ◌-◌, ◌≤◌, ℕ, suc, List, [], ◌∷◌, ◌++◌, Option, Some, None, length, take, refl, sym, ap, ap₂, subst, inl, inr, arith}
use Rattle.std.specs.Option.{IfSome, IfNone}
use Rattle.std.proofs.lemmas.List.{length-append}
use Rattle.std.proofs.Math.Seq.{take-append_seam}
use Rattle.csv.specs.Records.{field_at}
use Rattle.og_value.specs.declared.schema.Column.{Column}
use Rattle.og_file.proofs.CellLemmas.{next_field}
use Rattle.og_file.specs.Records.{Record, Begins, Each}
use Rattle.og_value.specs.Schemas.{IsSchema}
use Rattle.og_value.specs.declared.value.Value.{Value}
use Rattle.og_file.specs.TableFile.{AreCells}
use Rattle.og_file.specs.SavedFile.{Pair, AreSchema, IsCount, IsHeader, IsNoRow, IsRow, IsSavedFault, IsSavedFile, mark, one, two}
use Rattle.og_file.specs.declared.refusal.FileRefusal.{FileRefusal}
use Rattle.og_file.specs.declared.refusal.FileRefusal.TheVariants as refused
use Rattle.og_file.specs.SavedParts.{IsEnd, IsPairFault, HasRowsOne, HasRowsTwo}

-- a record of one field
pub alone : (fs : Record) (f : List ℕ) → length fs ≡ 1 → field_at fs 0 ≡ Some f → fs ≡ f ∷ []
unfolding field_at
alone [] f long at = cc at
alone (x ∷ []) f long at = let same : x ≡ f = cc at in ap (λ z. z ∷ []) same
alone (x ∷ y ∷ fs) f long at = absurd (two_or_more (length fs) long)
  where
    two_or_more : (n : ℕ) → suc (suc n) ≡ 1 → ⊥
    two_or_more n e = omega (arith, e)

-- no record of one field lacks it
pub not_alone : (fs : Record) → length fs ≡ 1 → field_at fs 0 ≡ None → ⊥
unfolding field_at
not_alone [] long at = cc long
not_alone (x ∷ fs) long at = cc at

at_end : (fields : Record) (field : List ℕ) → field_at (fields ++ field ∷ []) (length fields) ≡ Some field
unfolding field_at
at_end [] field = refl
at_end (f ∷ fs) field = at_end fs field

-- the place of the last field, and those before it
pub before_end : (fs fields : Record) (field : List ℕ) (last : ℕ) → fs ≡ fields ++ field ∷ [] → length fs ≡ last + 1 → length fields ≡ last
before_end fs fields field last is long = one_less (length fields) last (sym (length-append fields (field ∷ [])) ∙ sym (ap length is) ∙ long)
  where
    one_less : (n m : ℕ) → n + 1 ≡ m + 1 → n ≡ m
    one_less n m e = omega (arith, e)

-- the last field stands at the last place
pub there : (fs fields : Record) (field : List ℕ) (last : ℕ) → fs ≡ fields ++ field ∷ [] → length fs ≡ last + 1 → field_at fs last ≡ Some field
there fs fields field last is long = ap₂ field_at is (sym (before_end fs fields field last is long)) ∙ at_end fields field

-- and no other does
pub end_is : (fs fields : Record) (field f : List ℕ) (last : ℕ) → fs ≡ fields ++ field ∷ [] → length fs ≡ last + 1 → field_at fs last ≡ Some f → field ≡ f
end_is fs fields field f last is long at = cc (sym (there fs fields field last is long) ∙ at)

-- and the others are before it
pub front_is : (fs fields : Record) (field : List ℕ) (last : ℕ) → fs ≡ fields ++ field ∷ [] → length fs ≡ last + 1 → take last fs ≡ fields
front_is fs fields field last is long = ap₂ take (sym (before_end fs fields field last is long)) is ∙ take-append_seam fields (field ∷ [])

-- all fields
pub take_whole : (fs : Record) → take (length fs) fs ≡ fs
take_whole [] = refl
take_whole (f ∷ fs) = ap (λ xs. f ∷ xs) (take_whole fs)

-- a record is its first fields and the last one
pub whole : (fs : Record) (last : ℕ) (f : List ℕ) → length fs ≡ last + 1 → field_at fs last ≡ Some f → fs ≡ take last fs ++ f ∷ []
whole fs last f long at = sym (take_whole fs) ∙ ap (λ n. take n fs) long ∙ next_field fs last f at

-- one more than one less
pub one_more : (n last : ℕ) → (1 ≤ n) × (last ≡ n - 1) → n ≡ last + 1
one_more n last below = go below.0 below.1
  where
    go : 1 ≤ n → last ≡ n - 1 → n ≡ last + 1
    go some less = omega (arith, some, less)

-- the count of the only field is that of the record
pub end_some : (fs : Record) (f : List ℕ) → fs ≡ f ∷ [] → (found : Option ℕ) → IfSome found (λ count. IsCount f count) → IfSome found (IsEnd fs)
end_some fs f only (Some count) is = (f, only, is)
end_some fs f only None is = is

pub end_none : (fs : Record) (f : List ℕ) → fs ≡ f ∷ [] → (found : Option ℕ) → IfNone found ((count : ℕ) → ¬ IsCount f count) → IfNone found ((count : ℕ) → ¬ IsEnd fs count)
end_none fs f only (Some count) is = is
end_none fs f only None is = λ count end.
    let same : end.0 ≡ f = cc (sym end.1 ∙ only) in
    is count (subst (λ g. IsCount g count) same end.2)

-- one more record is one more row
pub count_more : (records : List Record) (fields : Record) (number k : ℕ) → number ≡ length records + k → number + 1 ≡ length (records ++ fields ∷ []) + k
count_more records fields number k is = go (length records) (length (records ++ fields ∷ [])) (length-append records (fields ∷ [])) is
  where
    go : (n m : ℕ) → m ≡ n + 1 → number ≡ n + k → number + 1 ≡ m + k
    go n m more is = omega (arith, more, is)

-- a record that is no row of version 1 is the first such
pub fault_one : (bytes : List ℕ) (header : Record) (before : List Record) (fields : Record) (columns : List Column) (count : ℕ) (pairs : List Pair) (number : ℕ) (e : FileRefusal)
    → number ≡ length before + 2 → IsPairFault one columns fields number e → IsHeader header columns count → Each (IsRow one columns) before pairs
    → Begins bytes (header ∷ before ++ fields ∷ []) → IsSavedFault bytes e
fault_one bytes header before fields columns count pairs number refused.Header is fault has are begun = absurd fault
fault_one bytes header before fields columns count pairs number (refused.Cell found) is fault has are begun =
    inl (header, before, fields, columns, count, pairs, begun, has, are, fault.1, fault.0 ∙ is)
fault_one bytes header before fields columns count pairs number (refused.RowCount said found) is fault has are begun = absurd fault
fault_one bytes header before fields columns count pairs number refused.NoMemory is fault has are begun = tt

-- a record that is neither a row of version 2 nor the last one is the first such
pub fault_two : (bytes : List ℕ) (header : Record) (before : List Record) (fields : Record) (columns : List Column) (pairs : List Pair) (number : ℕ) (e : FileRefusal)
    → number ≡ length before + 3 → IsPairFault two columns fields number e → ((count : ℕ) → ¬ IsEnd fields count) → AreSchema header columns
    → Each (IsRow two columns) before pairs → Begins bytes (mark ∷ header ∷ before ++ fields ∷ []) → IsSavedFault bytes e
fault_two bytes header before fields columns pairs number refused.Header is fault none has are begun = absurd fault
fault_two bytes header before fields columns pairs number (refused.Cell found) is fault none has are begun =
    inr (inl (header, before, fields, columns, pairs, begun, has, are, fault.1, inl (λ field count e said. none count (field, e, said)), fault.0 ∙ is))
fault_two bytes header before fields columns pairs number (refused.RowCount said found) is fault none has are begun = absurd fault
fault_two bytes header before fields columns pairs number refused.NoMemory is fault none has are begun = tt

no_cells : (columns : List Column) (values : List Value) → 1 ≤ length columns → AreCells columns [] values → ⊥
no_cells [] values some are = nothing some
  where
    nothing : 1 ≤ 0 → ⊥
    nothing some = omega (arith, some)
no_cells (c ∷ cs) values some are = are

no_cells_before : (cells : Record) (days only : List ℕ) → only ∷ [] ≡ cells ++ days ∷ [] → cells ≡ []
no_cells_before [] days only e = refl
no_cells_before (c ∷ []) days only e = cc e
no_cells_before (c ∷ d ∷ cells) days only e = cc e

-- a record of one field is no row
pub end_is_no_row : (columns : List Column) (fields : Record) (count : ℕ) → IsEnd fields count → IsSchema columns → IsNoRow two columns fields
end_is_no_row columns fields count end schema pair row =
    no_cells columns pair.0 schema.some (subst (λ cells. AreCells columns cells pair.0) (no_cells_before row.0 row.1 end.0 (sym end.1 ∙ row.2)) row.3)

-- a record behind the one that says the number of rows
pub late_record : (bytes : List ℕ) (header : Record) (before : List Record) (fields next : Record) (columns : List Column) (pairs : List Pair) (count number : ℕ)
    → number ≡ length before + 3 → IsEnd fields count → AreSchema header columns → Each (IsRow two columns) before pairs
    → Begins bytes (mark ∷ header ∷ before ++ fields ∷ []) → Begins bytes (mark ∷ header ∷ before ++ fields ∷ next ∷ []) → IsSavedFault bytes (refused.Cell number)
late_record bytes header before fields next columns pairs count number is end has are begun further =
    inr (inl (header, before, fields, columns, pairs, begun, has, are, end_is_no_row columns fields count end has.1, inr (next, further), is))

-- as many rows as the file says: of version 1, and of version 2
pub one_file : (bytes : List ℕ) (header : Record) (columns cs : List Column) (pairs ps : List Pair) (count : ℕ)
    → HasRowsOne bytes header columns pairs → IsHeader header columns count → (cs ≡ columns) × (ps ≡ pairs) × (count ≡ length pairs) → IsSavedFile bytes cs ps
one_file bytes header columns cs pairs ps count has is same =
    rw (same.0, same.1) (inl (header, has.0, has.1, rw (← same.2) is, has.2))

pub two_file : (bytes : List ℕ) (header : Record) (columns cs : List Column) (pairs ps : List Pair) (count : ℕ)
    → HasRowsTwo bytes header columns pairs count → AreSchema header columns → (cs ≡ columns) × (ps ≡ pairs) × (count ≡ length pairs) → IsSavedFile bytes cs ps
two_file bytes header columns cs pairs ps count has is same =
    rw (same.0, same.1) (inr (header, has.0, has.1, has.2, is, has.3, subst (λ n. IsCount has.1 n) same.2 has.4))

-- another number of rows: of version 1, and of version 2
pub one_count : (bytes : List ℕ) (header : Record) (columns : List Column) (pairs : List Pair) (said : ℕ) (e : FileRefusal)
    → HasRowsOne bytes header columns pairs → IsHeader header columns said → (e ≡ refused.RowCount said (length pairs)) × (said ≢ length pairs) → IsSavedFault bytes e
one_count bytes header columns pairs said e has is differ =
    rw differ.0 (columns, pairs, inl (header, has.0, has.1, is, has.2), refl, differ.1)

pub two_count : (bytes : List ℕ) (header : Record) (columns : List Column) (pairs : List Pair) (said : ℕ) (e : FileRefusal)
    → HasRowsTwo bytes header columns pairs said → AreSchema header columns → (e ≡ refused.RowCount said (length pairs)) × (said ≢ length pairs) → IsSavedFault bytes e
two_count bytes header columns pairs said e has is differ =
    rw differ.0 (columns, pairs, inr (header, has.0, has.1, has.2, is, has.3, has.4), refl, differ.1)
