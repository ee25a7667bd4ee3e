-- The bytes of a file have one list of records, and one list of rows.
use Rattle.std.proofs.Common.{◌≡◌, ◌++◌, ◌∷◌, ◌∙◌, ℕ, List, [], Some, None, refl, sym, ap, ap₂, subst}
use Rattle.csv.specs.Machine.{Read, next_record}
use Rattle.csv.specs.Reading.{default_config, strip_bom, Reached, AreRecords}
use Rattle.csv.specs.declared.parser.Config.{Config}
use Rattle.csv.specs.declared.parser.State.{State}
use Rattle.csv.specs.declared.parser.State.TheVariants as st
use Rattle.og_value.proofs.CellTexts.{one_value}
use Rattle.og_value.specs.declared.schema.Column.{Column}
use Rattle.og_value.specs.declared.value.Value.{Value}
use Rattle.og_file.specs.Records.{Record, AreAll, Begins, Each}
use Rattle.og_file.specs.TableFile.{AreCells, IsTableFile}

-- behind the records that are reached, the others go on
rest_from : (cfg : Config) (s : State) (xs : List ℕ) (a b : List Record) (s1 : State) (ys : List ℕ) → Reached cfg s xs a s1 ys → AreRecords cfg s xs b
    → (rest : List Record) × (b ≡ a ++ rest) × AreRecords cfg s1 ys rest
unfolding Reached
rest_from cfg s xs [] b s1 ys h all = (b, refl, rw (← h.0, ← h.1) all)
rest_from cfg s xs (r ∷ rs) [] s1 ys h all =
    let more : next_record cfg all.0 [] [] all.1 ≡ Some h.0 = rw (← all.2.0, ← all.2.1) h.1 in
    cc (sym all.3 ∙ more)
rest_from cfg s xs (r ∷ rs) (q ∷ qs) s1 ys h all =
    let same : h.0 ≡ all.2.0 = cc (sym h.1 ∙ all.2.1) in
    let on : Reached cfg h.0.1 h.0.2 qs all.0 all.1 = subst (λ (p : Read). Reached cfg p.1 p.2 qs all.0 all.1) (sym same) all.2.3 in
    let go = rest_from cfg h.0.1 h.0.2 rs qs s1 ys h.3 (all.0, all.1, on, all.3) in
    (go.0, ap₂ (λ x l. x ∷ l) (all.2.2 ∙ ap (λ (p : Read). p.0) (sym same) ∙ sym h.2) go.1, go.2)

-- nothing is behind the last record
none_behind : (cfg : Config) (s : State) (xs : List ℕ) (rest : List Record) → next_record cfg s [] [] xs ≡ None → AreRecords cfg s xs rest → rest ≡ []
unfolding Reached
none_behind cfg s xs [] none all = refl
none_behind cfg s xs (r ∷ rs) none all = cc (sym none ∙ all.2.1)

nothing_more : (a rest : List Record) → rest ≡ [] → a ++ rest ≡ a
nothing_more [] rest none = none
nothing_more (r ∷ a) rest none = ap (λ l. r ∷ l) (nothing_more a rest none)

-- the first records of the bytes begin all of them
pub begins_all : (bytes : List ℕ) (a b : List Record) → Begins bytes a → AreAll bytes b → (rest : List Record) × (b ≡ a ++ rest)
begins_all bytes a b begun all = let go = rest_from default_config st.StartRecord (strip_bom bytes) a b begun.0 begun.1 begun.2 all in (go.0, go.1)

-- the bytes have one list of records
pub one_list : (bytes : List ℕ) (a b : List Record) → AreAll bytes a → AreAll bytes b → a ≡ b
one_list bytes a b all other =
    let go = rest_from default_config st.StartRecord (strip_bom bytes) a b all.0 all.1 all.2 other in
    sym (go.1 ∙ nothing_more a go.0 (none_behind default_config all.0 all.1 go.0 all.3 go.2))

-- records have one list of values, where each has one value
pub one_each : {A : Type 0} (is : Record → A → Type 0) → ((r : Record) (x y : A) → is r x → is r y → x ≡ y) → (rs : List Record) (xs ys : List A) → Each is rs xs → Each is rs ys → xs ≡ ys
one_each is one [] [] [] are other = refl
one_each is one (r ∷ rs) (x ∷ xs) (y ∷ ys) are other = ap₂ (λ z l. z ∷ l) (one r x y are.0 other.0) (one_each is one rs xs ys are.1 other.1)
one_each is one [] (_ ∷ _) _ are other = absurd are
one_each is one [] [] (_ ∷ _) are other = absurd other
one_each is one (_ ∷ _) [] _ are other = absurd are
one_each is one (_ ∷ _) (_ ∷ _) [] are other = absurd other

-- the fields of a record have one list of values
pub one_row : (cs : List Column) (fs : Record) (xs ys : List Value) → AreCells cs fs xs → AreCells cs fs ys → xs ≡ ys
one_row [] [] [] [] are other = refl
one_row (c ∷ cs) (f ∷ fs) (x ∷ xs) (y ∷ ys) are other = ap₂ (λ z l. z ∷ l) (one_value c.kind f x y are.0 other.0) (one_row cs fs xs ys are.1 other.1)
one_row [] [] [] (_ ∷ _) are other = absurd other
one_row [] [] (_ ∷ _) _ are other = absurd are
one_row [] (_ ∷ _) _ _ are other = absurd are
one_row (_ ∷ _) [] _ _ are other = absurd are
one_row (_ ∷ _) (_ ∷ _) [] _ are other = absurd are
one_row (_ ∷ _) (_ ∷ _) (_ ∷ _) [] are other = absurd other

-- the records behind the first
pub behind : (r q : Record) (rs qs : List Record) → r ∷ rs ≡ q ∷ qs → (r ≡ q) × (rs ≡ qs)
behind r q rs qs e = (cc e, cc e)

-- a table file has one list of rows
pub one_table : (cs : List Column) (bytes : List ℕ) (a b : List (List Value)) → IsTableFile cs bytes a → IsTableFile cs bytes b → a ≡ b
one_table cs bytes a b is other =
    let same = (behind is.0 other.0 is.1 other.1 (one_list bytes (is.0 ∷ is.1) (other.0 ∷ other.1) is.2 other.2)).1 in
    one_each (AreCells cs) (one_row cs) is.1 a b is.4 (subst (λ rs. Each (AreCells cs) rs b) (sym same) other.4)
