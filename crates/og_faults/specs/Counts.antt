-- Counts of faults and of absences over a part of a run.
use Rattle.std.specs.Prelude.{◌≡◌, ◌≤◌, ℕ, Bool, true, false, Result, Err}
use Rattle.og_base.specs.Told.{Rose}
use Rattle.og_io.specs.declared.sink.PutRefusal.{PutRefusal}
use Rattle.og_io.specs.declared.sink.PutRefusal.TheVariants as puts
use Rattle.og_faults.specs.declared.fault.Fault.TheVariants as faults
use Rattle.og_faults.specs.declared.stop.Stop.{Stop}
use Rattle.og_faults.specs.declared.stop.Stop.TheVariants as stops

-- the count rose where the part failed so, and else it stayed
abbrev pub IsFaultCount : Bool → ℕ → ℕ → Type 0
IsFaultCount true old new = (old ≤ new) × Rose old new
IsFaultCount false old new = new ≡ old

-- whether the source failed
abbrev pub is_read_fault : {T : Type 0} → Result T Stop → Bool
is_read_fault (Err stops.ReadFault) = true
is_read_fault _ = false

-- whether the files failed
abbrev pub is_file_fault : {T : Type 0} → Result T Stop → Bool
is_file_fault (Err stops.FileFault) = true
is_file_fault _ = false

-- whether the sink failed, by the answer of a put and by that of a part of a run
abbrev pub is_unput : {T : Type 0} → Result T PutRefusal → Bool
is_unput (Err puts.Failed) = true
is_unput _ = false

abbrev pub is_write_fault : {T : Type 0} → Result T Stop → Bool
is_write_fault (Err stops.WriteFault) = true
is_write_fault _ = false

-- a count of absences never falls, and rose where a file was not there
abbrev pub IsAbsenceCount : {T : Type 0} → Result T Stop → ℕ → ℕ → Type 0
IsAbsenceCount (Err (stops.Fault (faults.NoFile statement file))) old new = (old ≤ new) × Rose old new
IsAbsenceCount _ old new = old ≤ new
