-- Bytes have one fault, if memory does not run out.
use Rattle.std.proofs.Common.{◌≡◌, ◌≢◌, ◌⊎◌, ◌+◌, ◌++◌, ◌∷◌, ◌∙◌, ℕ, suc, List, [], length, refl, sym, ap, ap₂, subst, inl, inr}
use Rattle.og_value.specs.declared.schema.Column.{Column}
use Rattle.og_file.specs.Records.{Record, AreAll, Begins, Each}
use Rattle.og_file.specs.SavedFile.{AreColumns, IsNoRow, IsRow, IsSavedFault, LacksHeader, LacksRowOne, LacksRowTwo, MissesCount, Pair, mark, one, two}
use Rattle.og_file.specs.TableFile.{AreCells, IsTableFault}
use Rattle.og_file.specs.declared.refusal.FileRefusal.{FileRefusal}
use Rattle.og_file.specs.declared.refusal.FileRefusal.TheVariants as refused
use Rattle.og_file.proofs.AllBytes.{records_of_all_bytes}
use Rattle.og_file.proofs.NoFaults.{behind_far, end_of_one, header_of_one, header_of_two, names_of_table, no_header_fault, no_row_fault, value_of}
use Rattle.og_file.proofs.OneLists.{begins_all, behind, one_list}
use Rattle.og_file.proofs.OneSaved.{one_columns, one_content, one_header}

-- the first records, and those behind them, are all
all_of : (bytes : List ℕ) (front : List Record) → Begins bytes front → (rest : List Record) × AreAll bytes (front ++ rest)
all_of bytes front begun =
    let all = records_of_all_bytes bytes in
    let more = begins_all bytes front all.0 begun all.1 in
    (more.0, subst (AreAll bytes) more.1 all.1)

-- the same, of first records with one more
all_from : (bytes : List ℕ) (front before : List Record) (fields : Record) → Begins bytes (front ++ before ++ fields ∷ []) → (rest : List Record) × AreAll bytes (front ++ before ++ fields ∷ rest)
all_from bytes front before fields begun =
    let all = all_of bytes (front ++ before ++ fields ∷ []) begun in
    (all.0, subst (AreAll bytes) (behind_far front before fields all.0) all.1)

-- as many records stand before the first that is not so, whoever names it
as_far : {A : Type 0} (is : Record → A → Type 0) (before front : List Record) (r q : Record) (rest more : List Record) (xs ys : List A) → before ++ r ∷ rest ≡ front ++ q ∷ more
    → Each is before xs → Each is front ys → ((x : A) → ¬ is r x) → ((y : A) → ¬ is q y) → length before ≡ length front
as_far is [] [] r q rest more xs ys e are other none out = refl
as_far is [] (f ∷ front) r q rest more xs [] e are other none out = absurd other
as_far is [] (f ∷ front) r q rest more xs (y ∷ ys) e are other none out = absurd (none y (subst (λ z. is z y) (sym (behind r f rest (front ++ q ∷ more) e).0) other.0))
as_far is (b ∷ before) [] r q rest more [] ys e are other none out = absurd are
as_far is (b ∷ before) [] r q rest more (x ∷ xs) ys e are other none out = absurd (out x (subst (λ z. is z x) (behind b q (before ++ r ∷ rest) more e).0 are.0))
as_far is (b ∷ before) (f ∷ front) r q rest more [] ys e are other none out = absurd are
as_far is (b ∷ before) (f ∷ front) r q rest more (x ∷ xs) [] e are other none out = absurd other
as_far is (b ∷ before) (f ∷ front) r q rest more (x ∷ xs) (y ∷ ys) e are other none out =
    ap suc (as_far is before front r q rest more xs ys (behind b f (before ++ r ∷ rest) (front ++ q ∷ more) e).1 are.1 other.1 none out)

-- ---- table files

one_cell_of_table : (cs : List Column) (bytes : List ℕ) (m n : ℕ) → IsTableFault cs bytes (refused.Cell m) → IsTableFault cs bytes (refused.Cell n) → m ≡ n
one_cell_of_table cs bytes m n (names, before, fields, rows, begun, has, are, none, at) (others, front, last, values, started, had, other, out, there) =
    let all = all_from bytes (names ∷ []) before fields begun in
    let more = all_from bytes (others ∷ []) front last started in
    let same = (behind names others (before ++ fields ∷ all.0) (front ++ last ∷ more.0) (one_list bytes (names ∷ before ++ fields ∷ all.0) (others ∷ front ++ last ∷ more.0) all.1 more.1)).1 in
    at ∙ ap (λ k. k + 2) (as_far (AreCells cs) before front fields last all.0 more.0 rows values same are other none out) ∙ sym there

header_or_cell : (cs : List Column) (bytes : List ℕ) (n : ℕ) → IsTableFault cs bytes refused.Header → IsTableFault cs bytes (refused.Cell n) → ⊥
header_or_cell cs bytes n header (names, before, fields, rows, begun, has, are, none, at) =
    let all = all_from bytes (names ∷ []) before fields begun in
    names_of_table cs bytes names (before ++ fields ∷ all.0) all.1 has header

pub one_fault_of_a_table_file : (cs : List Column) (bytes : List ℕ) (a b : FileRefusal) → a ≢ refused.NoMemory → b ≢ refused.NoMemory → IsTableFault cs bytes a → IsTableFault cs bytes b → a ≡ b
one_fault_of_a_table_file cs bytes refused.Header refused.Header known sure is other = refl
one_fault_of_a_table_file cs bytes refused.Header (refused.Cell n) known sure is other = absurd (header_or_cell cs bytes n is other)
one_fault_of_a_table_file cs bytes (refused.Cell m) refused.Header known sure is other = absurd (header_or_cell cs bytes m other is)
one_fault_of_a_table_file cs bytes (refused.Cell m) (refused.Cell n) known sure is other = ap refused.Cell (one_cell_of_table cs bytes m n is other)
one_fault_of_a_table_file cs bytes refused.Header (refused.RowCount said found) known sure is other = absurd other
one_fault_of_a_table_file cs bytes (refused.Cell m) (refused.RowCount said found) known sure is other = absurd other
one_fault_of_a_table_file cs bytes (refused.RowCount said found) b known sure is other = absurd is
one_fault_of_a_table_file cs bytes refused.NoMemory b known sure is other = absurd (known refl)
one_fault_of_a_table_file cs bytes refused.Header refused.NoMemory known sure is other = absurd (sure refl)
one_fault_of_a_table_file cs bytes (refused.Cell m) refused.NoMemory known sure is other = absurd (sure refl)

-- ---- saved files

-- the header of the file, and a record that is missing
header_or_row : (bytes : List ℕ) (number : ℕ) → LacksHeader bytes → LacksRowOne bytes number ⊎ LacksRowTwo bytes number → ⊥
header_or_row bytes number header (inl (first, before, fields, columns, count, pairs, begun, has, are, none, at)) =
    let all = all_from bytes (first ∷ []) before fields begun in
    header_of_one bytes first (before ++ fields ∷ all.0) columns count all.1 has header
header_or_row bytes number header (inr (inl (second, before, fields, columns, pairs, begun, has, are, none, end, at))) =
    let all = all_from bytes (mark ∷ second ∷ []) before fields begun in
    header_of_two bytes second (before ++ fields ∷ all.0) columns all.1 has header
header_or_row bytes number header (inr (inr (second, rows, columns, pairs, all, has, are, at))) = header_of_two bytes second rows columns all has header

-- the first record that is no row, in version 1
row_of_both_one : (bytes : List ℕ) (m n : ℕ) → LacksRowOne bytes m → LacksRowOne bytes n → m ≡ n
row_of_both_one bytes m n (header, before, fields, columns, count, pairs, begun, has, are, none, at) (first, front, last, cs, said, ps, started, had, other, out, there) =
    let all = all_from bytes (header ∷ []) before fields begun in
    let more = all_from bytes (first ∷ []) front last started in
    let same = behind header first (before ++ fields ∷ all.0) (front ++ last ∷ more.0) (one_list bytes (header ∷ before ++ fields ∷ all.0) (first ∷ front ++ last ∷ more.0) all.1 more.1) in
    let names = sym (one_header header first columns cs count said same.0 has had).0 in
    let rows : Each (IsRow one columns) front ps = subst (λ c. Each (IsRow one c) front ps) names other in
    let no_row : IsNoRow one columns last = subst (λ c. IsNoRow one c last) names out in
    at ∙ ap (λ k. k + 2) (as_far (IsRow one columns) before front fields last all.0 more.0 pairs ps same.1 are rows none no_row) ∙ sym there

-- of one version alone
row_of_one_and_two : (bytes : List ℕ) (m n : ℕ) → LacksRowOne bytes m → LacksRowTwo bytes n → ⊥
row_of_one_and_two bytes m n (header, before, fields, columns, count, pairs, begun, has, are, none, at) other =
    let all = all_from bytes (header ∷ []) before fields begun in
    end_of_one bytes header (before ++ fields ∷ all.0) columns count n all.1 has other

-- what stands behind the mark
behind_mark : (bytes : List ℕ) (header second : Record) (rows records : List Record) → AreAll bytes (mark ∷ header ∷ rows) → AreAll bytes (mark ∷ second ∷ records) → (header ≡ second) × (rows ≡ records)
behind_mark bytes header second rows records all whole =
    behind header second rows records (behind mark mark (header ∷ rows) (second ∷ records) (one_list bytes (mark ∷ header ∷ rows) (mark ∷ second ∷ records) all whole)).1

same_names : (header second : Record) (cs ds : List Column) → header ≡ second → AreColumns header cs → AreColumns second ds → ds ≡ cs
same_names header second cs ds e has had = sym (one_columns header cs ds has (subst (λ r. AreColumns r ds) (sym e) had))

-- a record that is no row does not stand among rows
no_row_among : (columns cs : List Column) (rows before : List Record) (fields : Record) (rest : List Record) (ps : List Pair) → cs ≡ columns → rows ≡ before ++ fields ∷ rest
    → Each (IsRow two cs) rows ps → IsNoRow two columns fields → ⊥
no_row_among columns cs rows before fields rest ps names e are none =
    let row = value_of (IsRow two cs) rows before fields rest ps e are in
    none row.0 (subst (λ c. IsRow two c fields row.0) names row.1)

-- the first record that is neither a row nor the last, in version 2, or the place behind all
row_of_both_two : (bytes : List ℕ) (m n : ℕ) → LacksRowTwo bytes m → LacksRowTwo bytes n → m ≡ n
row_of_both_two bytes m n (inl (header, before, fields, columns, pairs, begun, has, are, none, end, at)) (inl (second, front, last, cs, ps, started, had, other, out, stop, there)) =
    let all = all_from bytes (mark ∷ header ∷ []) before fields begun in
    let more = all_from bytes (mark ∷ second ∷ []) front last started in
    let same = behind_mark bytes header second (before ++ fields ∷ all.0) (front ++ last ∷ more.0) all.1 more.1 in
    let names = same_names header second columns cs same.0 has.0 had.0 in
    let rows : Each (IsRow two columns) front ps = subst (λ c. Each (IsRow two c) front ps) names other in
    let no_row : IsNoRow two columns last = subst (λ c. IsNoRow two c last) names out in
    at ∙ ap (λ k. k + 3) (as_far (IsRow two columns) before front fields last all.0 more.0 pairs ps same.1 are rows none no_row) ∙ sym there
row_of_both_two bytes m n (inl (header, before, fields, columns, pairs, begun, has, are, none, end, at)) (inr (second, rows, cs, ps, whole, had, other, there)) =
    let all = all_from bytes (mark ∷ header ∷ []) before fields begun in
    let same = behind_mark bytes header second (before ++ fields ∷ all.0) rows all.1 whole in
    absurd (no_row_among columns cs rows before fields all.0 ps (same_names header second columns cs same.0 has.0 had.0) (sym same.1) other none)
row_of_both_two bytes m n (inr (second, rows, cs, ps, whole, had, other, there)) (inl (header, before, fields, columns, pairs, begun, has, are, none, end, at)) =
    let all = all_from bytes (mark ∷ header ∷ []) before fields begun in
    let same = behind_mark bytes header second (before ++ fields ∷ all.0) rows all.1 whole in
    absurd (no_row_among columns cs rows before fields all.0 ps (same_names header second columns cs same.0 has.0 had.0) (sym same.1) other none)
row_of_both_two bytes m n (inr (header, rows, columns, pairs, all, has, are, at)) (inr (second, records, cs, ps, whole, had, other, there)) =
    at ∙ ap (λ (l : List Record). length l + 3) (behind_mark bytes header second rows records all whole).1 ∙ sym there

one_cell : (bytes : List ℕ) (m n : ℕ) → LacksRowOne bytes m ⊎ LacksRowTwo bytes m → LacksRowOne bytes n ⊎ LacksRowTwo bytes n → m ≡ n
one_cell bytes m n (inl is) (inl other) = row_of_both_one bytes m n is other
one_cell bytes m n (inl is) (inr other) = absurd (row_of_one_and_two bytes m n is other)
one_cell bytes m n (inr is) (inl other) = absurd (row_of_one_and_two bytes n m other is)
one_cell bytes m n (inr is) (inr other) = row_of_both_two bytes m n is other

-- the number of rows
one_count : (bytes : List ℕ) (said found told had : ℕ) → MissesCount bytes said found → MissesCount bytes told had → (said ≡ told) × (found ≡ had)
one_count bytes said found told had (columns, pairs, is, counted, differ) (cs, ps, other, again, apart) =
    let same = one_content bytes columns cs pairs ps said told is other in
    (same.2, counted ∙ ap length same.1 ∙ sym again)

pub one_fault_of_a_saved_file : (bytes : List ℕ) (a b : FileRefusal) → a ≢ refused.NoMemory → b ≢ refused.NoMemory → IsSavedFault bytes a → IsSavedFault bytes b → a ≡ b
one_fault_of_a_saved_file bytes refused.Header refused.Header known sure is other = refl
one_fault_of_a_saved_file bytes refused.Header (refused.Cell n) known sure is other = absurd (header_or_row bytes n is other)
one_fault_of_a_saved_file bytes (refused.Cell m) refused.Header known sure is other = absurd (header_or_row bytes m other is)
one_fault_of_a_saved_file bytes (refused.Cell m) (refused.Cell n) known sure is other = ap refused.Cell (one_cell bytes m n is other)
one_fault_of_a_saved_file bytes refused.Header (refused.RowCount said found) known sure is other = absurd (no_header_fault bytes other.0 other.1 said other.2 is)
one_fault_of_a_saved_file bytes (refused.Cell m) (refused.RowCount said found) known sure is other = absurd (no_row_fault bytes other.0 other.1 said m other.2 is)
one_fault_of_a_saved_file bytes (refused.RowCount said found) refused.Header known sure is other = absurd (no_header_fault bytes is.0 is.1 said is.2 other)
one_fault_of_a_saved_file bytes (refused.RowCount said found) (refused.Cell n) known sure is other = absurd (no_row_fault bytes is.0 is.1 said n is.2 other)
one_fault_of_a_saved_file bytes (refused.RowCount said found) (refused.RowCount told had) known sure is other =
    let same = one_count bytes said found told had is other in ap₂ refused.RowCount same.0 same.1
one_fault_of_a_saved_file bytes refused.NoMemory b known sure is other = absurd (known refl)
one_fault_of_a_saved_file bytes refused.Header refused.NoMemory known sure is other = absurd (sure refl)
one_fault_of_a_saved_file bytes (refused.Cell m) refused.NoMemory known sure is other = absurd (sure refl)
one_fault_of_a_saved_file bytes (refused.RowCount said found) refused.NoMemory known sure is other = absurd (sure refl)
