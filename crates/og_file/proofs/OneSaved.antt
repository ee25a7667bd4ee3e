-- The bytes of a saved file have one list of columns, and one list of rows on their days.
use Rattle.std.proofs.Common.{◌≡◌, ◌⊎◌, ◌≤◌, ◌++◌, ◌∷◌, ◌∙◌, ◌==◌, if◌then◌else◌, codes, ℕ, List, [], length, refl, sym, ap, ap₂, subst, inl, inr, arith}
use Rattle.std.proofs.lemmas.Fmt.{decimal_injective}
use Rattle.std.proofs.lemmas.List.{append_cancel_left, same_from_push}
use Rattle.std.specs.Fmt.{decimal}
use Rattle.og_base.proofs.SetTexts.{one_set}
use Rattle.og_base.specs.Ranges.{Range}
use Rattle.og_base.specs.SetTexts.{set_text}
use Rattle.og_value.specs.declared.kind.Kind.{Kind}
use Rattle.og_value.specs.declared.kind.Kind.TheVariants as k
use Rattle.og_value.specs.declared.schema.Column.{Column}
use Rattle.og_value.specs.Words.{folded}
use Rattle.og_file.specs.Records.{Record, Each}
use Rattle.og_file.specs.SavedFile.{Pair, AreColumns, IsColumn, IsCount, IsDays, IsHeader, IsRow, IsSavedFile, IsVersionOne, IsVersionTwo, Version, kind_word, mark, one, two}
use Rattle.og_file.specs.TableFile.{AreCells}
use Rattle.og_file.proofs.HeaderLemmas.{same_word}
use Rattle.og_file.proofs.OneLists.{behind, one_each, one_list, one_row}

-- ---- the fields

-- the first byte
first : List ℕ → ℕ
first [] = 0
first (b ∷ bs) = b

-- the kind whose word begins so
kind_by : ℕ → Kind
kind_by b = if b == 73 then k.Int else if b == 84 then k.Text else if b == 68 then k.Date else k.Period

by_word : (j : Kind) → kind_by (first (kind_word j)) ≡ j
unfolding first kind_by
by_word k.Int = refl
by_word k.Text = refl
by_word k.Date = refl
by_word k.Period = refl

-- a word is of one kind
one_kind : (j l : Kind) → kind_word j ≡ kind_word l → j ≡ l
one_kind j l e = sym (by_word j) ∙ ap (λ w. kind_by (first w)) e ∙ by_word l

-- a column is its name and its kind
same_column : (c d : Column) → c.name ≡ d.name → c.kind ≡ d.kind → c ≡ d
same_column c d name kind = λ i. record { name = name i; kind = kind i }

-- a field names one column
one_column : (field : List ℕ) (c d : Column) → IsColumn field c → IsColumn field d → c ≡ d
one_column field c d is other =
    let both = sym is.3 ∙ other.3 in
    let word = same_word is.0 other.0 c.kind d.kind both in
    let ends : 58 ∷ kind_word c.kind ≡ 58 ∷ kind_word d.kind = append_cancel_left is.0 (58 ∷ kind_word c.kind) (58 ∷ kind_word d.kind) (both ∙ ap (λ w. w ++ 58 ∷ kind_word d.kind) (sym word)) in
    let kinds : kind_word c.kind ≡ kind_word d.kind = cc ends in
    same_column c d (is.2 ∙ ap folded word ∙ sym other.2) (one_kind c.kind d.kind kinds)

-- the fields name one list of columns
pub one_columns : (fs : Record) (cs ds : List Column) → AreColumns fs cs → AreColumns fs ds → cs ≡ ds
one_columns [] [] [] are other = refl
one_columns (f ∷ fs) (c ∷ cs) (d ∷ ds) are other = ap₂ (λ x l. x ∷ l) (one_column f c d are.0 other.0) (one_columns fs cs ds are.1 other.1)
one_columns [] (_ ∷ _) _ are other = absurd are
one_columns [] [] (_ ∷ _) are other = absurd other
one_columns (_ ∷ _) [] _ are other = absurd are
one_columns (_ ∷ _) (_ ∷ _) [] are other = absurd other

-- a field says one number
one_number : (field : List ℕ) (m n : ℕ) → IsCount field m → IsCount field n → m ≡ n
one_number field m n is other = decimal_injective m n is.1 other.1 (append_cancel_left (codes "rows:") (decimal m) (decimal n) (sym is.0 ∙ other.0))

apart : ◌≡◌ {A = ℕ} 42 123 → ⊥
apart e = omega (arith, e)

-- a star begins no set text
no_star : (days : List Range) → codes "*" ≡ set_text days → ⊥
unfolding first
no_star days e = apart (ap first e)

-- a field is of one set of days
one_days : (version : Version) (field : List ℕ) (a b : List Range) → IsDays version field a → IsDays version field b → a ≡ b
one_days one field a b is other = one_set a b is.0.1 other.0.1 (sym is.1 ∙ other.1)
one_days two field a b (has, inl is) (had, inl other) = one_set a b has.1 had.1 (is.1 ∙ sym other.1)
one_days two field a b (has, inl is) (had, inr other) = absurd (no_star b (sym is.0 ∙ other.0))
one_days two field a b (has, inr is) (had, inl other) = absurd (no_star a (sym other.0 ∙ is.0))
one_days two field a b (has, inr is) (had, inr other) = one_set a b has.1 had.1 (sym is.0 ∙ other.0)

-- a record is of one row
one_pair : (version : Version) (cs : List Column) (fields : Record) (p q : Pair) → IsRow version cs fields p → IsRow version cs fields q → p ≡ q
one_pair version cs fields p q is other =
    let same = same_from_push is.0 other.0 is.1 other.1 (sym is.2 ∙ other.2) in
    let values = one_row cs is.0 p.0 q.0 is.3 (subst (λ fs. AreCells cs fs q.0) (sym same.0) other.3) in
    let days = one_days version is.1 p.1 q.1 is.4 (subst (λ f. IsDays version f q.1) (sym same.1) other.4) in
    ap₂ (λ x y. (x, y)) values days

-- records are of one list of rows
pub one_pairs : (version : Version) (cs ds : List Column) (rs qs : List Record) (ps os : List Pair) → cs ≡ ds → rs ≡ qs → Each (IsRow version cs) rs ps → Each (IsRow version ds) qs os → ps ≡ os
one_pairs version cs ds rs qs ps os same_columns same_records are other =
    one_each (IsRow version cs) (one_pair version cs) rs ps os are (rw (same_columns, same_records) other)

-- ---- the headers

-- a header names one list of columns and says one number
pub one_header : (r q : Record) (cs ds : List Column) (m n : ℕ) → r ≡ q → IsHeader r cs m → IsHeader q ds n → (cs ≡ ds) × (m ≡ n)
one_header r q cs ds m n e is other =
    let same = same_from_push is.0 other.0 is.1 other.1 (sym is.2 ∙ e ∙ other.2) in
    (one_columns is.0 cs ds is.3.0 (subst (λ fs. AreColumns fs ds) (sym same.0) other.3.0), one_number is.1 m n is.4 (subst (λ f. IsCount f n) (sym same.1) other.4))

nothing : 1 ≤ 0 → ⊥
nothing some = omega (arith, some)

no_columns : (fs : Record) (cs : List Column) → fs ≡ [] → AreColumns fs cs → 1 ≤ length cs → ⊥
no_columns fs [] none are some = nothing some
no_columns [] (c ∷ cs) none are some = are
no_columns (f ∷ fs) (c ∷ cs) none are some = cc none

none_before : (fs : Record) (f only : List ℕ) → only ∷ [] ≡ fs ++ f ∷ [] → fs ≡ []
none_before [] f only e = refl
none_before (c ∷ []) f only e = cc e
none_before (c ∷ d ∷ fs) f only e = cc e

-- the mark is no header of version 1
pub no_mark : (r : Record) (cs : List Column) (n : ℕ) → r ≡ mark → IsHeader r cs n → ⊥
no_mark r cs n e is = no_columns is.0 cs (none_before is.0 is.1 (codes "ongq:2") (sym e ∙ is.2)) is.3.0 is.3.1.some

-- ---- the files

-- of version 1
pub both_one : (bytes : List ℕ) (cs ds : List Column) (ps os : List Pair) (m n : ℕ) → IsVersionOne bytes cs ps m → IsVersionOne bytes ds os n → (cs ≡ ds) × (ps ≡ os) × (m ≡ n)
both_one bytes cs ds ps os m n is other =
    let same = behind is.0 other.0 is.1 other.1 (one_list bytes (is.0 ∷ is.1) (other.0 ∷ other.1) is.2 other.2) in
    let header = one_header is.0 other.0 cs ds m n same.0 is.3 other.3 in
    (header.0, one_pairs one cs ds is.1 other.1 ps os header.0 same.1 is.4 other.4, header.1)

-- of version 1 and of version 2
pub one_and_two : (bytes : List ℕ) (cs ds : List Column) (ps os : List Pair) (m n : ℕ) → IsVersionOne bytes cs ps m → IsVersionTwo bytes ds os n → ⊥
one_and_two bytes cs ds ps os m n is other =
    no_mark is.0 cs m (behind is.0 mark is.1 _ (one_list bytes (is.0 ∷ is.1) (mark ∷ other.0 ∷ other.1 ++ (other.2 ∷ []) ∷ []) is.2 other.3)).0 is.3

-- of version 2
pub both_two : (bytes : List ℕ) (cs ds : List Column) (ps os : List Pair) (m n : ℕ) → IsVersionTwo bytes cs ps m → IsVersionTwo bytes ds os n → (cs ≡ ds) × (ps ≡ os) × (m ≡ n)
both_two bytes cs ds ps os m n is other =
    let all = one_list bytes (mark ∷ is.0 ∷ is.1 ++ (is.2 ∷ []) ∷ []) (mark ∷ other.0 ∷ other.1 ++ (other.2 ∷ []) ∷ []) is.3 other.3 in
    let same = behind is.0 other.0 (is.1 ++ (is.2 ∷ []) ∷ []) (other.1 ++ (other.2 ∷ []) ∷ []) (behind mark mark (is.0 ∷ is.1 ++ (is.2 ∷ []) ∷ []) (other.0 ∷ other.1 ++ (other.2 ∷ []) ∷ []) all).1 in
    let ends = same_from_push is.1 other.1 (is.2 ∷ []) (other.2 ∷ []) same.1 in
    let columns = one_columns is.0 cs ds is.4.0 (subst (λ fs. AreColumns fs ds) (sym same.0) other.4.0) in
    let field : is.2 ≡ other.2 = cc ends.1 in
    (columns, one_pairs two cs ds is.1 other.1 ps os columns ends.0 is.5 other.5, one_number is.2 m n is.6 (subst (λ f. IsCount f n) (sym field) other.6))

-- what a saved file says, whatever number of rows the file names
pub one_content : (bytes : List ℕ) (cs ds : List Column) (ps os : List Pair) (m n : ℕ)
    → IsVersionOne bytes cs ps m ⊎ IsVersionTwo bytes cs ps m → IsVersionOne bytes ds os n ⊎ IsVersionTwo bytes ds os n → (cs ≡ ds) × (ps ≡ os) × (m ≡ n)
one_content bytes cs ds ps os m n (inl is) (inl other) = both_one bytes cs ds ps os m n is other
one_content bytes cs ds ps os m n (inl is) (inr other) = absurd (one_and_two bytes cs ds ps os m n is other)
one_content bytes cs ds ps os m n (inr is) (inl other) = absurd (one_and_two bytes ds cs os ps n m other is)
one_content bytes cs ds ps os m n (inr is) (inr other) = both_two bytes cs ds ps os m n is other

-- a saved file has one list of columns and one list of rows
pub one_file : (bytes : List ℕ) (cs ds : List Column) (ps os : List Pair) → IsSavedFile bytes cs ps → IsSavedFile bytes ds os → (cs ≡ ds) × (ps ≡ os)
one_file bytes cs ds ps os is other = let same = one_content bytes cs ds ps os (length ps) (length os) is other in (same.0, same.1)
