-- Counts of faults and of absences over a call of files.
use Rattle.std.specs.Prelude.{ℕ, Result, Ok, Err}
use Rattle.og_io.specs.Counts.{raised}
use Rattle.og_io.specs.declared.files.Found.{Found}
use Rattle.og_io.specs.declared.files.Found.TheVariants.{Present, Absent}
use Rattle.og_io.specs.declared.files.FilesRefusal.{FilesRefusal}
use Rattle.og_io.specs.declared.files.FilesRefusal.TheVariants.{Failed, NoMemory}

-- a count of faults after a call: neither an absence nor want of memory is a fault
abbrev pub faults_after_call : {T : Type 0} → Result T FilesRefusal → ℕ → ℕ
faults_after_call (Ok done) faults = faults
faults_after_call (Err Failed) faults = raised faults
faults_after_call (Err NoMemory) faults = faults

-- a count of absences after a read
abbrev pub absences_after_read : Result Found FilesRefusal → ℕ → ℕ
absences_after_read (Ok Absent) absences = raised absences
absences_after_read (Ok Present) absences = absences
absences_after_read (Err refusal) absences = absences
