-- What each part of a run is stopped by, and which statuses that gives.
use Rattle.std.proofs.Common.{◌≡◌, ◌≤◌, ◌⊎◌, inl, inr, ℕ, [], ◌∷◌, Result, Ok, Err, refl, sym, arith}
use Rattle.std.specs.List.{Contains}
use Rattle.og_base.proofs.SetLemmas.{Contains-cons_cases}
use Rattle.og_io.specs.declared.sink.PutRefusal.{PutRefusal}
use Rattle.og_io.specs.declared.sink.PutRefusal.TheVariants as puts
use Rattle.og_check.specs.declared.refusal.CheckRefusal.{CheckRefusal}
use Rattle.og_check.specs.declared.refusal.CheckRefusal.TheVariants as checks
use Rattle.og_faults.specs.Counts.{IsAbsenceCount, IsFaultCount, is_file_fault, is_write_fault}
use Rattle.og_faults.specs.Faults.{fault_status, status_of}
use Rattle.og_faults.specs.Stops.{stop_of_check, stop_of_put}
use Rattle.og_faults.specs.declared.stop.Stop.{Stop}
use Rattle.og_faults.specs.declared.stop.Stop.TheVariants as stops
use Rattle.og_session.specs.Ends.{EndsWith, IsFileStop, IsPutStop, IsStepStop}

-- ---- what a part did not ask for stays

-- a statement of files puts nothing
pub unput_by_file : (r : Result (Unit {0}) Stop) (k : ℕ) → IsFileStop r → IsFaultCount (is_write_fault r) k k
unput_by_file (Ok done) k is = refl
unput_by_file (Err (stops.Fault fault)) k is = refl
unput_by_file (Err stops.ReadFault) k is = absurd is
unput_by_file (Err stops.FileFault) k is = refl
unput_by_file (Err stops.WriteFault) k is = absurd is
unput_by_file (Err stops.NoMemory) k is = refl

-- a statement of names asks for no file
pub unfiled_by_put : (r : Result (Unit {0}) Stop) (k : ℕ) → IsPutStop r → IsFaultCount (is_file_fault r) k k
unfiled_by_put (Ok done) k is = refl
unfiled_by_put (Err (stops.Fault fault)) k is = absurd is
unfiled_by_put (Err stops.ReadFault) k is = absurd is
unfiled_by_put (Err stops.FileFault) k is = absurd is
unfiled_by_put (Err stops.WriteFault) k is = refl
unfiled_by_put (Err stops.NoMemory) k is = refl

pub unmissed_by_put : (r : Result (Unit {0}) Stop) (k : ℕ) → IsPutStop r → IsAbsenceCount r k k
unmissed_by_put (Ok done) k is = omega arith
unmissed_by_put (Err (stops.Fault fault)) k is = absurd is
unmissed_by_put (Err stops.ReadFault) k is = absurd is
unmissed_by_put (Err stops.FileFault) k is = absurd is
unmissed_by_put (Err stops.WriteFault) k is = omega arith
unmissed_by_put (Err stops.NoMemory) k is = omega arith

-- ---- what each part may be stopped by

-- both kinds of statements are statements
pub step_by_file : (r : Result (Unit {0}) Stop) → IsFileStop r → IsStepStop r
step_by_file (Ok done) is = tt
step_by_file (Err (stops.Fault fault)) is = inr is
step_by_file (Err stops.ReadFault) is = absurd is
step_by_file (Err stops.FileFault) is = tt
step_by_file (Err stops.WriteFault) is = absurd is
step_by_file (Err stops.NoMemory) is = tt

pub step_by_put : (r : Result (Unit {0}) Stop) → IsPutStop r → IsStepStop r
step_by_put (Ok done) is = tt
step_by_put (Err (stops.Fault fault)) is = absurd is
step_by_put (Err stops.ReadFault) is = absurd is
step_by_put (Err stops.FileFault) is = absurd is
step_by_put (Err stops.WriteFault) is = tt
step_by_put (Err stops.NoMemory) is = tt

-- a put that was refused
pub put_stopped : (refusal : PutRefusal) → IsPutStop (Err (stop_of_put refusal))
put_stopped puts.Failed = tt
put_stopped puts.NoMemory = tt

-- checks that were refused
module _ (n : ℕ) where
  pub check_stopped : (refusal : CheckRefusal) → IsStepStop (Err (stop_of_check n refusal))
  check_stopped (checks.NoSuchName name) = inl refl
  check_stopped (checks.NameTaken name) = inl refl
  check_stopped (checks.NoSuchColumn name) = inl refl
  check_stopped (checks.AmbiguousColumn name) = inl refl
  check_stopped (checks.KindsDiffer found wanted) = inl refl
  check_stopped (checks.CountsDiffer found wanted) = inl refl
  check_stopped (checks.TooMany found limit) = inl refl
  check_stopped checks.NoMemory = tt

-- ---- statuses

-- one of three
pub one_of_three : (a b c n : ℕ) → Contains (a ∷ b ∷ c ∷ []) n → (a ≡ n) ⊎ ((b ≡ n) ⊎ (c ≡ n))
one_of_three a b c n h = first (Contains-cons_cases a n (b ∷ c ∷ []) h)
  where
    third : (c ≡ n) ⊎ Contains [] n → c ≡ n
    third (inl e) = e
    third (inr (i, within, e)) = absurd (omega (arith, within))

    second : (b ≡ n) ⊎ Contains (c ∷ []) n → (b ≡ n) ⊎ (c ≡ n)
    second (inl e) = inl e
    second (inr h) = inr (third (Contains-cons_cases c n [] h))

    first : (a ≡ n) ⊎ Contains (b ∷ c ∷ []) n → (a ≡ n) ⊎ ((b ≡ n) ⊎ (c ≡ n))
    first (inl e) = inl e
    first (inr h) = inr (second (Contains-cons_cases b n (c ∷ []) h))

-- a status that comes before the statements is none of theirs
pub early : {A : Type 0} (n : ℕ) → (n ≡ 0) ⊎ (4 ≤ n) → ¬ (n ≡ 6) → (2 ≡ n) ⊎ ((3 ≡ n) ⊎ (6 ≡ n)) → A
early n (inl z) six (inl e) = absurd (omega (arith, z, e))
early n (inl z) six (inr (inl e)) = absurd (omega (arith, z, e))
early n (inl z) six (inr (inr e)) = absurd (six (sym e))
early n (inr z) six (inl e) = absurd (omega (arith, z, e))
early n (inr z) six (inr (inl e)) = absurd (omega (arith, z, e))
early n (inr z) six (inr (inr e)) = absurd (six (sym e))

-- no statement ends with a status that comes before them
pub not_early : {A : Type 0} (r : Result (Unit {0}) Stop) → IsStepStop r → EndsWith (2 ∷ 3 ∷ 6 ∷ []) r → A
not_early {A} r is h = by r is (one_of_three 2 3 6 (status_of r) h)
  where
    by : (r : Result (Unit {0}) Stop) → IsStepStop r → (2 ≡ status_of r) ⊎ ((3 ≡ status_of r) ⊎ (6 ≡ status_of r)) → A
    by (Ok done) is h = early 0 (inl refl) (λ e. omega (arith, e)) h
    by (Err (stops.Fault fault)) (inl e) h = early (fault_status fault) (inr (omega (arith, e))) (λ s. omega (arith, e, s)) h
    by (Err (stops.Fault fault)) (inr e) h = early (fault_status fault) (inr (omega (arith, e))) (λ s. omega (arith, e, s)) h
    by (Err stops.ReadFault) is h = absurd is
    by (Err stops.FileFault) is h = early 7 (inr (omega arith)) (λ e. omega (arith, e)) h
    by (Err stops.WriteFault) is h = early 8 (inr (omega arith)) (λ e. omega (arith, e)) h
    by (Err stops.NoMemory) is h = early 9 (inr (omega arith)) (λ e. omega (arith, e)) h
