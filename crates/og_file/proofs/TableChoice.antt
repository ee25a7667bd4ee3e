-- Any bytes are a table file, or no table file for a reason.
use Rattle.std.proofs.Common.{◌≡◌, ◌≢◌, ◌⊎◌, ◌+◌, ◌++◌, ◌∷◌, [], ℕ, List, length, map, refl, sym, ap, subst, inl, inr}
use Rattle.csv.specs.Reading.{default_config, strip_bom, Reached}
use Rattle.csv.specs.declared.parser.Config.{Config}
use Rattle.csv.specs.declared.parser.State.{State}
use Rattle.csv.specs.declared.parser.State.TheVariants as st
use Rattle.og_base.proofs.Choices.{Or, same_text}
use Rattle.og_value.specs.Cells.{IsCell}
use Rattle.og_value.specs.Words.{folded}
use Rattle.og_value.specs.declared.schema.Column.{Column}
use Rattle.og_value.specs.declared.value.Value.{Value}
use Rattle.og_file.specs.Records.{Record, AreAll, Begins, Each}
use Rattle.og_file.specs.TableFile.{AreCells, HasNames, IsTableFault, IsTableFile}
use Rattle.og_file.specs.declared.refusal.FileRefusal.{FileRefusal}
use Rattle.og_file.specs.declared.refusal.FileRefusal.TheVariants as refused
use Rattle.og_file.proofs.AllBytes.{records_of_all_bytes}
use Rattle.og_file.proofs.CellChoice.{a_cell}
use Rattle.og_file.proofs.NoFaults.{behind_far}

pub a_row : (cs : List Column) (fs : Record) → Or ((xs : List Value) × AreCells cs fs xs)
a_row [] [] = inl ([], tt)
a_row [] (f ∷ fs) = inr (λ h. h.1)
a_row (c ∷ cs) [] = inr (λ h. h.1)
a_row (c ∷ cs) (f ∷ fs) = by (a_cell c.kind f) (a_row cs fs)
  where
    first : ((x : Value) × IsCell c.kind f x → ⊥) → (xs : List Value) → AreCells (c ∷ cs) (f ∷ fs) xs → ⊥
    first out [] h = h
    first out (x ∷ xs) h = out (x, h.0)

    rest : ((xs : List Value) × AreCells cs fs xs → ⊥) → (xs : List Value) → AreCells (c ∷ cs) (f ∷ fs) xs → ⊥
    rest out [] h = h
    rest out (x ∷ xs) h = out (xs, h.1)

    by : Or ((x : Value) × IsCell c.kind f x) → Or ((xs : List Value) × AreCells cs fs xs) → Or ((xs : List Value) × AreCells (c ∷ cs) (f ∷ fs) xs)
    by (inl x) (inl xs) = inl (x.0 ∷ xs.0, (x.1, xs.1))
    by (inr out) xs = inr (λ h. first out h.0 h.1)
    by (inl x) (inr out) = inr (λ h. rest out h.0 h.1)

pub same_list : (xs ys : Record) → Or (xs ≡ ys)
same_list [] [] = inl refl
same_list [] (y ∷ ys) = inr (λ e. cc e)
same_list (x ∷ xs) [] = inr (λ e. cc e)
same_list (x ∷ xs) (y ∷ ys) = by (same_text x y) (same_list xs ys)
  where
    by : Or (x ≡ y) → Or (xs ≡ ys) → Or (x ∷ xs ≡ y ∷ ys)
    by (inl a) (inl b) = inl (rw (a, b) refl)
    by (inr out) b = inr (λ e. out (let same : x ≡ y = cc e in same))
    by (inl a) (inr out) = inr (λ e. out (let same : xs ≡ ys = cc e in same))

-- the first record that has no value
pub record HasBad {A : Type 0} (is : Record → A → Type 0) (records : List Record) : Type 0 where
  pub before : List Record
  pub fields : Record
  pub after : List Record
  pub values : List A
  pub split : records ≡ before ++ fields ∷ after
  pub are : Each is before values
  pub none : (value : A) → ¬ is fields value

-- each record has a value, or there is a first that has none
pub values_or_bad : {A : Type 0} (is : Record → A → Type 0) → ((r : Record) → Or ((x : A) × is r x)) → (records : List Record) → ((xs : List A) × Each is records xs) ⊎ HasBad is records
values_or_bad is decide [] = inl ([], tt)
values_or_bad {A} is decide (r ∷ rs) = by (decide r) (values_or_bad is decide rs)
  where
    by : Or ((x : A) × is r x) → ((xs : List A) × Each is rs xs) ⊎ HasBad is rs → ((xs : List A) × Each is (r ∷ rs) xs) ⊎ HasBad is (r ∷ rs)
    by (inl x) (inl xs) = inl (x.0 ∷ xs.0, (x.1, xs.1))
    by (inr out) more = inr (record { before = []; fields = r; after = rs; values = []; split = refl; are = tt; none = λ value h. out (value, h) })
    by (inl x) (inr bad) = inr (record {
      before = r ∷ bad.before;
      fields = bad.fields;
      after = bad.after;
      values = x.0 ∷ bad.values;
      split = ap (λ l. r ∷ l) bad.split;
      are = (x.1, bad.are);
      none = bad.none;
    })

-- the front of what was read was read
front_of : (cfg : Config) (s s2 : State) (xs ys : List ℕ) (front rest : List Record) → Reached cfg s xs (front ++ rest) s2 ys → (s1 : State) × (zs : List ℕ) × Reached cfg s xs front s1 zs
unfolding Reached
front_of cfg s s2 xs ys [] rest h = (s, xs, (refl, refl))
front_of cfg s s2 xs ys (r ∷ front) rest h =
    let more = front_of cfg h.0.1 s2 h.0.2 ys front rest h.3 in
    (more.0, more.1, (h.0, h.1, h.2, more.2))

-- the first records of the bytes begin them
pub begins : (bytes : List ℕ) (front rest : List Record) → AreAll bytes (front ++ rest) → Begins bytes front
begins bytes front rest all = front_of default_config st.StartRecord all.0 (strip_bom bytes) all.1 front rest all.2

-- the same, of first records with one more
pub begins_to : (bytes : List ℕ) (front before : List Record) (fields : Record) (after : List Record) → AreAll bytes (front ++ before ++ fields ∷ after) → Begins bytes (front ++ before ++ fields ∷ [])
begins_to bytes front before fields after all = begins bytes (front ++ before ++ fields ∷ []) after (subst (AreAll bytes) (sym (behind_far front before fields after)) all)

Chosen : List Column → List ℕ → Type 0
Chosen columns bytes = ((rows : List (List Value)) × IsTableFile columns bytes rows) ⊎ ((e : FileRefusal) × (e ≢ refused.NoMemory) × IsTableFault columns bytes e)

pub each_table_file_or_fault : (columns : List Column) (bytes : List ℕ)
    → ((rows : List (List Value)) × IsTableFile columns bytes rows) ⊎ ((e : FileRefusal) × (e ≢ refused.NoMemory) × IsTableFault columns bytes e)
unfolding Chosen
each_table_file_or_fault columns bytes = let all = records_of_all_bytes bytes in by all.0 all.1
  where
    of_rows : (names : Record) (records : List Record) → AreAll bytes (names ∷ records) → HasNames columns names → ((rows : List (List Value)) × Each (AreCells columns) records rows) ⊎ HasBad (AreCells columns) records → Chosen columns bytes
    of_rows names records all has (inl found) = inl (found.0, (names, records, all, has, found.1))
    of_rows names records all has (inr bad) =
        let begun = begins_to bytes (names ∷ []) bad.before bad.fields bad.after (subst (λ l. AreAll bytes (names ∷ l)) bad.split all) in
        inr (refused.Cell (length bad.before + 2), (λ e. cc e), (names, bad.before, bad.fields, bad.values, begun, has, bad.are, bad.none, refl))

    header : (names : Record) (records : List Record) → AreAll bytes (names ∷ records) → Or (HasNames columns names) → Chosen columns bytes
    header names records all (inl has) = of_rows names records all has (values_or_bad (AreCells columns) (a_row columns) records)
    header names records all (inr out) = inr (refused.Header, (λ e. cc e), inr (names, begins bytes (names ∷ []) records all, out))

    by : (records : List Record) → AreAll bytes records → Chosen columns bytes
    by [] all = inr (refused.Header, (λ e. cc e), inl all)
    by (names ∷ records) all = header names records all (same_list (map folded names) (map (λ c. c.name) columns))
