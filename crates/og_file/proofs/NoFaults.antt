-- The bytes of a file that is of its form have no fault.
use Rattle.std.proofs.Common.{◌≡◌, ◌⊎◌, ◌++◌, ◌∷◌, ◌∙◌, ℕ, List, [], length, refl, sym, ap, subst, inl, inr}
use Rattle.og_value.specs.declared.schema.Column.{Column}
use Rattle.og_value.specs.declared.value.Value.{Value}
use Rattle.og_file.specs.Records.{Record, AreAll, Begins, Each}
use Rattle.og_file.specs.SavedFile.{Pair, AreColumns, AreSchema, IsHeader, IsNoRow, IsNoEnd, IsRow, IsSavedFault, IsSavedFile, IsVersionOne, IsVersionTwo, LacksHeader, LacksRowOne, LacksRowTwo, MissesCount, mark, one, two}
use Rattle.og_file.specs.TableFile.{AreCells, HasNames, IsTableFault, IsTableFile}
use Rattle.og_file.specs.declared.refusal.FileRefusal.{FileRefusal}
use Rattle.og_file.specs.declared.refusal.FileRefusal.TheVariants as refused
use Rattle.og_file.proofs.OneLists.{begins_all, behind, one_list}
use Rattle.og_file.proofs.OneSaved.{no_mark, one_columns, one_content, one_header}
use Rattle.og_file.proofs.SavedLemmas.{end_is_no_row}

-- the value of a record among others
value_at : {A : Type 0} (is : Record → A → Type 0) (before : List Record) (r : Record) (rest : List Record) (xs : List A) → Each is (before ++ r ∷ rest) xs → (x : A) × is r x
value_at is [] r rest [] are = absurd are
value_at is [] r rest (x ∷ xs) are = (x, are.0)
value_at is (b ∷ before) r rest [] are = absurd are
value_at is (b ∷ before) r rest (x ∷ xs) are = value_at is before r rest xs are.1

-- the same, of records that are those
pub value_of : {A : Type 0} (is : Record → A → Type 0) (rs before : List Record) (r : Record) (rest : List Record) (xs : List A) → rs ≡ before ++ r ∷ rest → Each is rs xs → (x : A) × is r x
value_of is rs before r rest xs e are = value_at is before r rest xs (subst (λ l. Each is l xs) e are)

-- what stands behind the first records and one more
pub behind_more : (before : List Record) (r : Record) (rest : List Record) → (before ++ r ∷ []) ++ rest ≡ before ++ r ∷ rest
behind_more [] r rest = refl
behind_more (b ∷ before) r rest = ap (λ l. b ∷ l) (behind_more before r rest)

-- the same, where others stand before them
pub behind_far : (front before : List Record) (r : Record) (rest : List Record) → (front ++ before ++ r ∷ []) ++ rest ≡ front ++ before ++ r ∷ rest
behind_far [] before r rest = behind_more before r rest
behind_far (x ∷ front) before r rest = ap (λ l. x ∷ l) (behind_far front before r rest)

pub behind_two : (before : List Record) (r q : Record) (rest : List Record) → (before ++ r ∷ q ∷ []) ++ rest ≡ before ++ r ∷ q ∷ rest
behind_two [] r q rest = refl
behind_two (b ∷ before) r q rest = ap (λ l. b ∷ l) (behind_two before r q rest)

-- a record is among those before the last one, or is the last one
at_or_before : (rs before : List Record) (last r : Record) (rest : List Record) → rs ++ last ∷ [] ≡ before ++ r ∷ rest
    → ((more : List Record) × (rs ≡ before ++ r ∷ more)) ⊎ ((last ≡ r) × (rest ≡ []))
at_or_before [] [] last r rest e = let same = behind last r [] rest e in inr (same.0, sym same.1)
at_or_before [] (b ∷ []) last r rest e = cc e
at_or_before [] (b ∷ c ∷ before) last r rest e = cc e
at_or_before (x ∷ rs) [] last r rest e = inl (rs, ap (λ y. y ∷ rs) (behind x r (rs ++ last ∷ []) rest e).0)
at_or_before (x ∷ rs) (b ∷ before) last r rest e =
    let same = behind x b (rs ++ last ∷ []) (before ++ r ∷ rest) e in
    elim (at_or_before rs before last r rest same.1) [
      | inl more ↦ inl (more.0, subst (λ y. x ∷ rs ≡ y ∷ before ++ r ∷ more.0) same.0 (ap (λ l. x ∷ l) more.1))
      | inr end ↦ inr end
    ]

-- ---- table files

-- bytes with these names have no fault of the header
pub names_of_table : (cs : List Column) (bytes : List ℕ) (names : Record) (rows : List Record) → AreAll bytes (names ∷ rows) → HasNames cs names → IsTableFault cs bytes refused.Header → ⊥
names_of_table cs bytes names rows all has (inl none) = cc (one_list bytes [] (names ∷ rows) none all)
names_of_table cs bytes names rows all has (inr (others, begun, differ)) =
    let more = begins_all bytes (others ∷ []) (names ∷ rows) begun all in
    differ (subst (HasNames cs) (behind names others rows more.0 more.1).0 has)

-- a table file has no fault
pub no_table_fault : (cs : List Column) (bytes : List ℕ) (rows : List (List Value)) (e : FileRefusal) → IsTableFile cs bytes rows → IsTableFault cs bytes e → e ≡ refused.NoMemory
no_table_fault cs bytes rows refused.Header is fault = absurd (names_of_table cs bytes is.0 is.1 is.2 is.3 fault)
no_table_fault cs bytes rows (refused.Cell number) is (names, before, fields, values, begun, has, are, none, at) =
    let all = begins_all bytes (names ∷ before ++ fields ∷ []) (is.0 ∷ is.1) begun is.2 in
    let same = (behind is.0 names is.1 ((before ++ fields ∷ []) ++ all.0) all.1).1 ∙ behind_more before fields all.0 in
    let row = value_of (AreCells cs) is.1 before fields all.0 rows same is.4 in
    absurd (none row.0 row.1)
no_table_fault cs bytes rows (refused.RowCount said found) is fault = absurd fault
no_table_fault cs bytes rows refused.NoMemory is fault = refl

-- ---- saved files

-- of version 1: bytes with this header, and a file
pub header_of_one : (bytes : List ℕ) (header : Record) (rows : List Record) (cs : List Column) (n : ℕ) → AreAll bytes (header ∷ rows) → IsHeader header cs n → LacksHeader bytes → ⊥
header_of_one bytes header rows cs n all has (inl none) = cc (one_list bytes [] (header ∷ rows) none all)
header_of_one bytes header rows cs n all has (inr (inl (first, begun, other, none))) =
    let more = begins_all bytes (first ∷ []) (header ∷ rows) begun all in
    none cs n (subst (λ r. IsHeader r cs n) (behind header first rows more.0 more.1).0 has)
header_of_one bytes header rows cs n all has (inr (inr (inl alone))) = no_mark header cs n (behind header mark rows [] (one_list bytes (header ∷ rows) (mark ∷ []) all alone)).0 has
header_of_one bytes header rows cs n all has (inr (inr (inr (second, begun, none)))) =
    let more = begins_all bytes (mark ∷ second ∷ []) (header ∷ rows) begun all in
    no_mark header cs n (behind header mark rows (second ∷ more.0) more.1).0 has

pub end_of_one : (bytes : List ℕ) (header : Record) (rows : List Record) (cs : List Column) (n number : ℕ) → AreAll bytes (header ∷ rows) → IsHeader header cs n → LacksRowTwo bytes number → ⊥
end_of_one bytes header rows cs n number all has (inl (second, before, fields, columns, pairs, begun, names, are, none, end, at)) =
    let more = begins_all bytes (mark ∷ second ∷ before ++ fields ∷ []) (header ∷ rows) begun all in
    no_mark header cs n (behind header mark rows ((second ∷ before ++ fields ∷ []) ++ more.0) more.1).0 has
end_of_one bytes header rows cs n number all has (inr (second, records, columns, pairs, whole, names, are, at)) =
    no_mark header cs n (behind header mark rows (second ∷ records) (one_list bytes (header ∷ rows) (mark ∷ second ∷ records) all whole)).0 has

row_of_one : (bytes : List ℕ) (cs : List Column) (ps : List Pair) (n number : ℕ) → IsVersionOne bytes cs ps n → LacksRowOne bytes number → ⊥
row_of_one bytes cs ps n number is (header, before, fields, columns, count, pairs, begun, has, are, none, at) =
    let all = begins_all bytes (header ∷ before ++ fields ∷ []) (is.0 ∷ is.1) begun is.2 in
    let same = behind is.0 header is.1 ((before ++ fields ∷ []) ++ all.0) all.1 in
    let columns_same = (one_header is.0 header cs columns n count same.0 is.3 has).0 in
    let row = value_of (IsRow one cs) is.1 before fields all.0 ps (same.1 ∙ behind_more before fields all.0) is.4 in
    none row.0 (subst (λ c. IsRow one c fields row.0) columns_same row.1)

-- of version 2: bytes with the mark, and this header behind it, and a file
pub header_of_two : (bytes : List ℕ) (header : Record) (rows : List Record) (cs : List Column) → AreAll bytes (mark ∷ header ∷ rows) → AreSchema header cs → LacksHeader bytes → ⊥
header_of_two bytes header rows cs all has (inl none) = cc (one_list bytes [] (mark ∷ header ∷ rows) none all)
header_of_two bytes header rows cs all has (inr (inl (first, begun, other, none))) =
    let more = begins_all bytes (first ∷ []) (mark ∷ header ∷ rows) begun all in
    other (sym (behind mark first (header ∷ rows) more.0 more.1).0)
header_of_two bytes header rows cs all has (inr (inr (inl alone))) =
    cc (behind mark mark (header ∷ rows) [] (one_list bytes (mark ∷ header ∷ rows) (mark ∷ []) all alone)).1
header_of_two bytes header rows cs all has (inr (inr (inr (second, begun, none)))) =
    let more = begins_all bytes (mark ∷ second ∷ []) (mark ∷ header ∷ rows) begun all in
    let same = behind header second rows more.0 (behind mark mark (header ∷ rows) (second ∷ more.0) more.1).1 in
    none cs (subst (λ r. AreSchema r cs) same.0 has)

row_of_two : (bytes : List ℕ) (rows : List Record) (number : ℕ) → AreAll bytes (mark ∷ rows) → LacksRowOne bytes number → ⊥
row_of_two bytes rows number all (header, before, fields, columns, count, pairs, begun, has, are, none, at) =
    let more = begins_all bytes (header ∷ before ++ fields ∷ []) (mark ∷ rows) begun all in
    no_mark header columns count (sym (behind mark header rows ((before ++ fields ∷ []) ++ more.0) more.1).0) has

-- the record stands among the rows, or it is the last one and says the number of rows
no_row_or_end : (bytes : List ℕ) (cs : List Column) (ps : List Pair) (n : ℕ) (is : IsVersionTwo bytes cs ps n) (header : Record) (before : List Record) (fields : Record)
    → Begins bytes (mark ∷ header ∷ before ++ fields ∷ []) → IsNoRow two cs fields → IsNoEnd bytes (mark ∷ header ∷ before) fields → ⊥
no_row_or_end bytes cs ps n is header before fields begun none end =
    let records = is.1 ++ (is.2 ∷ []) ∷ [] in
    let all = begins_all bytes (mark ∷ header ∷ before ++ fields ∷ []) (mark ∷ is.0 ∷ records) begun is.3 in
    let both = behind mark mark (is.0 ∷ records) ((header ∷ before ++ fields ∷ []) ++ all.0) all.1 in
    let same = behind is.0 header records ((before ++ fields ∷ []) ++ all.0) both.1 in
    elim (at_or_before is.1 before (is.2 ∷ []) fields all.0 (same.1 ∙ behind_more before fields all.0)) [
      | inl more ↦ let row = value_of (IsRow two cs) is.1 before fields more.0 ps more.1 is.5 in none row.0 row.1
      | inr last ↦ elim end [
        | inl silent ↦ silent is.2 n (sym last.0) is.6
        | inr (next, further) ↦
            let on = begins_all bytes (mark ∷ header ∷ before ++ fields ∷ next ∷ []) (mark ∷ is.0 ∷ records) further is.3 in
            let again = behind mark mark (is.0 ∷ records) ((header ∷ before ++ fields ∷ next ∷ []) ++ on.0) on.1 in
            let there = behind is.0 header records ((before ++ fields ∷ next ∷ []) ++ on.0) again.1 in
            elim (at_or_before is.1 before (is.2 ∷ []) fields (next ∷ on.0) (there.1 ∙ behind_two before fields next on.0)) [
              | inl more ↦ let row = value_of (IsRow two cs) is.1 before fields more.0 ps more.1 is.5 in none row.0 row.1
              | inr end ↦ cc end.1
            ]
      ]
    ]

end_of_two : (bytes : List ℕ) (cs : List Column) (ps : List Pair) (n number : ℕ) → IsVersionTwo bytes cs ps n → LacksRowTwo bytes number → ⊥
end_of_two bytes cs ps n number is (inl (header, before, fields, columns, pairs, begun, has, are, none, end, at)) =
    let records = is.1 ++ (is.2 ∷ []) ∷ [] in
    let all = begins_all bytes (mark ∷ header ∷ before ++ fields ∷ []) (mark ∷ is.0 ∷ records) begun is.3 in
    let both = behind mark mark (is.0 ∷ records) ((header ∷ before ++ fields ∷ []) ++ all.0) all.1 in
    let same = behind is.0 header records ((before ++ fields ∷ []) ++ all.0) both.1 in
    let columns_same = one_columns is.0 cs columns is.4.0 (subst (λ r. AreColumns r columns) (sym same.0) has.0) in
    no_row_or_end bytes cs ps n is header before fields begun (subst (λ c. IsNoRow two c fields) (sym columns_same) none) end
end_of_two bytes cs ps n number is (inr (header, rows, columns, pairs, all, has, are, at)) =
    let records = is.1 ++ (is.2 ∷ []) ∷ [] in
    let both = behind mark mark (is.0 ∷ records) (header ∷ rows) (one_list bytes (mark ∷ is.0 ∷ records) (mark ∷ header ∷ rows) is.3 all) in
    let same = behind is.0 header records rows both.1 in
    let row = value_of (IsRow two columns) rows is.1 (is.2 ∷ []) [] pairs (sym same.1) are in
    end_is_no_row columns (is.2 ∷ []) n (is.2, refl, is.6) has.1 row.0 row.1

-- bytes of either form have no other fault than the number of rows
pub no_header_fault : (bytes : List ℕ) (cs : List Column) (ps : List Pair) (n : ℕ) → IsVersionOne bytes cs ps n ⊎ IsVersionTwo bytes cs ps n → LacksHeader bytes → ⊥
no_header_fault bytes cs ps n (inl is) fault = header_of_one bytes is.0 is.1 cs n is.2 is.3 fault
no_header_fault bytes cs ps n (inr is) fault = header_of_two bytes is.0 (is.1 ++ (is.2 ∷ []) ∷ []) cs is.3 is.4 fault

pub no_row_fault : (bytes : List ℕ) (cs : List Column) (ps : List Pair) (n number : ℕ) → IsVersionOne bytes cs ps n ⊎ IsVersionTwo bytes cs ps n → LacksRowOne bytes number ⊎ LacksRowTwo bytes number → ⊥
no_row_fault bytes cs ps n number (inl is) (inl fault) = row_of_one bytes cs ps n number is fault
no_row_fault bytes cs ps n number (inl is) (inr fault) = end_of_one bytes is.0 is.1 cs n number is.2 is.3 fault
no_row_fault bytes cs ps n number (inr is) (inl fault) = row_of_two bytes (is.0 ∷ is.1 ++ (is.2 ∷ []) ∷ []) number is.3 fault
no_row_fault bytes cs ps n number (inr is) (inr fault) = end_of_two bytes cs ps n number is fault

-- the number of rows
right_count : (bytes : List ℕ) (cs : List Column) (ps : List Pair) (said found : ℕ) → IsSavedFile bytes cs ps → MissesCount bytes said found → ⊥
right_count bytes cs ps said found is (columns, pairs, other, counted, differ) =
    let same = one_content bytes cs columns ps pairs (length ps) said is other in
    differ (sym same.2 ∙ ap length same.1 ∙ sym counted)

-- a saved file has no fault
pub no_saved_fault : (bytes : List ℕ) (cs : List Column) (ps : List Pair) (e : FileRefusal) → IsSavedFile bytes cs ps → IsSavedFault bytes e → e ≡ refused.NoMemory
no_saved_fault bytes cs ps refused.Header is fault = absurd (no_header_fault bytes cs ps (length ps) is fault)
no_saved_fault bytes cs ps (refused.Cell number) is fault = absurd (no_row_fault bytes cs ps (length ps) number is fault)
no_saved_fault bytes cs ps (refused.RowCount said found) is fault = absurd (right_count bytes cs ps said found is fault)
no_saved_fault bytes cs ps refused.NoMemory is fault = refl
