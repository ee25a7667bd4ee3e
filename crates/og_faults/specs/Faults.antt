-- The line and the status of each fault, and of a run's end.
use Rattle.std.specs.Prelude.{◌++◌, ℕ, List, [], ◌∷◌, Result, Ok, Err, codes}
use Rattle.std.specs.Fmt.{decimal}
use Rattle.og_check.specs.declared.refusal.CheckRefusal.TheVariants as checks
use Rattle.og_faults.specs.Lines.{kind_word, numbered, numbered_between, numbered_with}
use Rattle.og_faults.specs.declared.fault.Fault.{Fault}
use Rattle.og_faults.specs.declared.fault.Fault.TheVariants as faults
use Rattle.og_faults.specs.declared.stop.Stop.{Stop}
use Rattle.og_faults.specs.declared.stop.Stop.TheVariants as stops

-- ---- a fault

-- the line of a fault
abbrev pub fault_line : Fault → List ℕ
fault_line faults.Words = codes "fault words" ++ 10 ∷ []
fault_line faults.SourceTooLong = codes "fault source too long" ++ 10 ∷ []
fault_line (faults.BadByte offset) = numbered (codes "fault byte at ") offset
fault_line (faults.OpenText offset) = numbered (codes "fault open text at ") offset
fault_line (faults.NumberRange offset) = numbered (codes "fault number range at ") offset
fault_line (faults.Syntax n) = numbered (codes "fault syntax statement ") n
fault_line (faults.TooDeep n) = numbered (codes "fault too deep statement ") n
fault_line (faults.Literal n) = numbered (codes "fault literal statement ") n
fault_line (faults.Check n (checks.NoSuchName name)) = numbered_with (codes "fault no such name statement ") n name
fault_line (faults.Check n (checks.NameTaken name)) = numbered_with (codes "fault name taken statement ") n name
fault_line (faults.Check n (checks.NoSuchColumn name)) = numbered_with (codes "fault no such column statement ") n name
fault_line (faults.Check n (checks.AmbiguousColumn name)) = numbered_with (codes "fault ambiguous column statement ") n name
fault_line (faults.Check n (checks.KindsDiffer found wanted)) = numbered_between (codes "fault kinds differ statement ") n (kind_word found) (codes " for ") (kind_word wanted)
fault_line (faults.Check n (checks.CountsDiffer found wanted)) = numbered_between (codes "fault counts differ statement ") n (decimal found) (codes " for ") (decimal wanted)
fault_line (faults.Check n (checks.TooMany found limit)) = numbered_between (codes "fault too many statement ") n (decimal found) (codes " of ") (decimal limit)
fault_line (faults.Check n checks.NoMemory) = []
fault_line (faults.NoFile n file) = numbered_with (codes "fault no file statement ") n file
fault_line (faults.Header n) = numbered (codes "fault header statement ") n
fault_line (faults.Record n number) = numbered (codes "fault record " ++ decimal number ++ codes " statement ") n
fault_line (faults.RowCount n said found) = numbered_between (codes "fault row count statement ") n (codes "said " ++ decimal said) (codes " found ") (decimal found)

-- the status of a fault
abbrev pub fault_status : Fault → ℕ
fault_status faults.Words = 2
fault_status faults.SourceTooLong = 3
fault_status (faults.BadByte offset) = 3
fault_status (faults.OpenText offset) = 3
fault_status (faults.NumberRange offset) = 3
fault_status (faults.Syntax n) = 3
fault_status (faults.TooDeep n) = 3
fault_status (faults.Literal n) = 3
fault_status (faults.Check n refusal) = 4
fault_status (faults.NoFile n file) = 5
fault_status (faults.Header n) = 5
fault_status (faults.Record n number) = 5
fault_status (faults.RowCount n said found) = 5

-- ---- the end of a run

-- the last line of a run that ends so: that of its fault, and else none
abbrev pub line_of : Result (Unit {0}) Stop → List ℕ
line_of (Ok done) = []
line_of (Err (stops.Fault fault)) = fault_line fault
line_of (Err stops.ReadFault) = []
line_of (Err stops.FileFault) = []
line_of (Err stops.WriteFault) = []
line_of (Err stops.NoMemory) = []

-- and its status
abbrev pub status_of : Result (Unit {0}) Stop → ℕ
status_of (Ok done) = 0
status_of (Err (stops.Fault fault)) = fault_status fault
status_of (Err stops.ReadFault) = 6
status_of (Err stops.FileFault) = 7
status_of (Err stops.WriteFault) = 8
status_of (Err stops.NoMemory) = 9
