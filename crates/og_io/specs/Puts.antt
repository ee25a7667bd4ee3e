-- Counts of faults over a put.
use Rattle.std.specs.Prelude.{ℕ, Result, Ok, Err}
use Rattle.og_io.specs.Counts.{raised}
use Rattle.og_io.specs.declared.sink.PutRefusal.{PutRefusal}
use Rattle.og_io.specs.declared.sink.PutRefusal.TheVariants.{Failed, NoMemory}

-- a count of faults after a put: want of memory is no fault
abbrev pub faults_after_put : Result (Unit {0}) PutRefusal → ℕ → ℕ
faults_after_put (Ok done) faults = faults
faults_after_put (Err Failed) faults = raised faults
faults_after_put (Err NoMemory) faults = faults
