-- Counts of faults and of absences over parts of a run, one after the other.
use Rattle.std.proofs.Common.{◌≡◌, ◌≤◌, ℕ, Bool, Result, Ok, Err, refl, subst, arith}
use Rattle.og_base.specs.Told.{Rose}
use Rattle.og_io.specs.declared.sink.PutRefusal.{PutRefusal}
use Rattle.og_io.specs.declared.sink.PutRefusal.TheVariants as puts
use Rattle.og_check.specs.declared.refusal.CheckRefusal.{CheckRefusal}
use Rattle.og_check.specs.declared.refusal.CheckRefusal.TheVariants as checks
use Rattle.og_faults.specs.Counts.{IsAbsenceCount, IsFaultCount, is_file_fault, is_unput, is_write_fault}
use Rattle.og_faults.specs.Stops.{stop_of_check, stop_of_put}
use Rattle.og_faults.specs.declared.fault.Fault.TheVariants as faults
use Rattle.og_faults.specs.declared.stop.Stop.{Stop}
use Rattle.og_faults.specs.declared.stop.Stop.TheVariants as stops

-- ---- what was refused

-- a put
pub put_counted : (refusal : PutRefusal) (old new : ℕ) → IsFaultCount (is_unput {T = Unit {0}} (Err refusal)) old new → IsFaultCount (is_write_fault {T = Unit {0}} (Err (stop_of_put refusal))) old new
put_counted puts.Failed old new is = is
put_counted puts.NoMemory old new is = is

-- checks
pub check_counted : (n : ℕ) (refusal : CheckRefusal) (k : ℕ)
    → IsFaultCount (is_file_fault {T = Unit {0}} (Err (stop_of_check n refusal))) k k × IsFaultCount (is_write_fault {T = Unit {0}} (Err (stop_of_check n refusal))) k k
    × IsAbsenceCount {T = Unit {0}} (Err (stop_of_check n refusal)) k k
check_counted n (checks.NoSuchName name) k = (refl, refl, omega arith)
check_counted n (checks.NameTaken name) k = (refl, refl, omega arith)
check_counted n (checks.NoSuchColumn name) k = (refl, refl, omega arith)
check_counted n (checks.AmbiguousColumn name) k = (refl, refl, omega arith)
check_counted n (checks.KindsDiffer found wanted) k = (refl, refl, omega arith)
check_counted n (checks.CountsDiffer found wanted) k = (refl, refl, omega arith)
check_counted n (checks.TooMany found limit) k = (refl, refl, omega arith)
check_counted n checks.NoMemory k = (refl, refl, omega arith)

-- ---- one part after the other

-- a count that stayed before
pub fault_after : (b : Bool) (old mid new : ℕ) → mid ≡ old → IsFaultCount b mid new → IsFaultCount b old new
fault_after b old mid new e is = subst (λ k. IsFaultCount b k new) e is

-- a count of absences that did not fall before
pub absence_after : (r : Result (Unit {0}) Stop) (old mid new : ℕ) → old ≤ mid → IsAbsenceCount r mid new → IsAbsenceCount r old new
absence_after r old mid new le is = by r is
  where
    rose : (mid ≤ new) × Rose mid new → (old ≤ new) × Rose old new
    rose (up, more) = (omega (arith, le, up), omega (arith, le, more))

    still : mid ≤ new → old ≤ new
    still up = omega (arith, le, up)

    by : (r : Result (Unit {0}) Stop) → IsAbsenceCount r mid new → IsAbsenceCount r old new
    by (Ok done) h = still h
    by (Err (stops.Fault faults.Words)) h = still h
    by (Err (stops.Fault faults.SourceTooLong)) h = still h
    by (Err (stops.Fault (faults.BadByte n))) h = still h
    by (Err (stops.Fault (faults.OpenText n))) h = still h
    by (Err (stops.Fault (faults.NumberRange n))) h = still h
    by (Err (stops.Fault (faults.Syntax n))) h = still h
    by (Err (stops.Fault (faults.TooDeep n))) h = still h
    by (Err (stops.Fault (faults.Literal n))) h = still h
    by (Err (stops.Fault (faults.Check n refusal))) h = still h
    by (Err (stops.Fault (faults.NoFile n file))) h = rose h
    by (Err (stops.Fault (faults.Header n))) h = still h
    by (Err (stops.Fault (faults.Record n number))) h = still h
    by (Err (stops.Fault (faults.RowCount n said found))) h = still h
    by (Err stops.ReadFault) h = still h
    by (Err stops.FileFault) h = still h
    by (Err stops.WriteFault) h = still h
    by (Err stops.NoMemory) h = still h
