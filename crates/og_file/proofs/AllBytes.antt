-- Any bytes have records.
use Rattle.std.proofs.Common.{◌≡◌, ◌≤◌, ◌-◌, ℕ, Bool, true, false, zero, suc, List, [], ◌∷◌, ◌++◌, Option, Some, None, length, refl, ap, arith}
use Rattle.csv.specs.Machine.{Read, ends_at_end, field_after, fields_after, is_end, next_record, step}
use Rattle.csv.specs.Reading.{default_config, strip_bom, AreRecords, Reached}
use Rattle.csv.specs.declared.parser.Config.{Config}
use Rattle.csv.specs.declared.parser.State.{State}
use Rattle.csv.specs.declared.parser.State.TheVariants as st
use Rattle.og_file.specs.Records.{Record, AreAll}

-- the bytes that a read left
left_same : (q p : Read) → Some q ≡ Some p → q.2 ≡ p.2
left_same q p e = let same : q ≡ p = cc e in ap (λ (r : Read). r.2) same

-- a read of a record takes a byte, where there is one
takes : (cfg : Config) (s : State) (fields : List (List ℕ)) (field xs : List ℕ) (p : Read) → next_record cfg s fields field xs ≡ Some p → length p.2 ≤ length xs - 1
unfolding next_record
takes cfg s fields field [] p e = by (ends_at_end s) refl
  where
    none : (n : ℕ) → 0 ≡ n → n ≤ 0
    none n same = omega (arith, same)

    by : (b : Bool) → ends_at_end s ≡ b → length p.2 ≤ 0
    by true is = none (length p.2) (ap length (left_same (fields ++ (field ∷ []), st.StartRecord, []) p (rw is at e)))
    by false is = cc (rw is at e)
takes cfg s fields field (c ∷ rest) p e = by (is_end (step cfg s c).1) refl (takes cfg (step cfg s c).0 (fields_after (step cfg s c).1 fields field) (field_after (step cfg s c).1 c field) rest p)
  where
    as_long : (n m : ℕ) → n ≡ m → m ≤ suc n - 1
    as_long n m same = omega (arith, same)

    shorter : (n m : ℕ) → m ≤ n - 1 → m ≤ suc n - 1
    shorter n m less = omega (arith, less)

    by : (b : Bool) → is_end (step cfg s c).1 ≡ b
        → (next_record cfg (step cfg s c).0 (fields_after (step cfg s c).1 fields field) (field_after (step cfg s c).1 c field) rest ≡ Some p → length p.2 ≤ length rest - 1)
        → length p.2 ≤ suc (length rest) - 1
    by true is more = as_long (length rest) (length p.2) (ap length (left_same (fields_after (step cfg s c).1 fields field, (step cfg s c).0, rest) p (rw is at e)))
    by false is more = shorter (length rest) (length p.2) (more (rw is at e))

abbrev Have : Config → State → List ℕ → Type 0
Have cfg s xs = (rows : List Record) × AreRecords cfg s xs rows

-- no bytes
none_left : (cfg : Config) (s : State) → Have cfg s []
unfolding next_record Reached
none_left cfg s = by (ends_at_end s) refl
  where
    by : (b : Bool) → ends_at_end s ≡ b → Have cfg s []
    by true is = (([] ∷ []) ∷ [], (st.StartRecord, [], ((([] ∷ []), st.StartRecord, []), rw is refl, refl, (refl, refl)), refl))
    by false is = ([], (s, [], (refl, refl), rw is refl))

-- at most so many bytes
some_left : (cfg : Config) (n : ℕ) (s : State) (xs : List ℕ) → length xs ≤ n → Have cfg s xs
unfolding Reached
some_left cfg n s [] most = none_left cfg s
some_left cfg zero s (x ∷ xs) most = absurd (omega (arith, most))
some_left cfg (suc n) s (x ∷ xs) most = by (next_record cfg s [] [] (x ∷ xs)) refl (some_left cfg n)
  where
    fewer : (k l : ℕ) → suc l ≤ suc n → k ≤ suc l - 1 → k ≤ n
    fewer k l most less = omega (arith, most, less)

    by : (o : Option Read) → next_record cfg s [] [] (x ∷ xs) ≡ o → ((s : State) (xs : List ℕ) → length xs ≤ n → Have cfg s xs) → Have cfg s (x ∷ xs)
    by None is more = ([], (s, x ∷ xs, (refl, refl), is))
    by (Some p) is more =
        let rest = more p.1 p.2 (fewer (length p.2) (length xs) most (takes cfg s [] [] (x ∷ xs) p is)) in
        (p.0 ∷ rest.0, (rest.1.0, rest.1.1, (p, is, refl, rest.1.2), rest.1.3))

reflexive : (n : ℕ) → n ≤ n
reflexive n = omega arith

pub records_of_all_bytes : (bytes : List ℕ) → (records : List Record) × AreAll bytes records
records_of_all_bytes bytes = some_left default_config (length (strip_bom bytes)) st.StartRecord (strip_bom bytes) (reflexive (length (strip_bom bytes)))
