-- How a translation ends: its status and its last line.
use Rattle.std.specs.Prelude.{◌++◌, ℕ, Bool, true, false, List, [], ◌∷◌, Result, Ok, Err, codes}
use Rattle.std.specs.Fmt.{decimal}
use Rattle.og_base.specs.Calendar.{day_text}
use Rattle.og_faults.specs.Faults as run
use Rattle.og_faults.specs.declared.fault.Fault.{Fault}
use Rattle.og_faults.specs.declared.stop.Stop.{Stop}
use Rattle.og_faults.specs.declared.stop.Stop.TheVariants as stops
use Rattle.og_sql_outside.specs.declared.values.Outside.{Outside}
use Rattle.og_sql_outside.specs.declared.values.Outside.TheVariants as outside
use Rattle.og_sql.specs.declared.stop.SqlStop.{SqlStop}
use Rattle.og_sql.specs.declared.stop.SqlStop.TheVariants as sql

-- how a translation ends
abbrev pub End : Type 0
End = Result (Unit {0}) SqlStop

-- what a run of the script, as far as its devices and its faults go, would say of that end
abbrev pub run_end : {T : Type 0} → Result T SqlStop → Result (Unit {0}) Stop
run_end (Ok done) = Ok tt
run_end (Err (sql.Run stop)) = Err stop
run_end (Err (sql.Outside statement what)) = Ok tt

-- the status: 12 where a value is outside PostgreSQL, else that of a run
abbrev pub status_of : End → ℕ
status_of (Err (sql.Outside statement what)) = 12
status_of end = run.status_of (run_end end)

-- the words of what PostgreSQL cannot hold
abbrev pub outside_words : Outside → List ℕ
outside_words (outside.Day day) = day_text day
outside_words outside.Nul = codes "a byte 0 in a text"

-- the line where a statement has such a value
abbrev pub outside_line : ℕ → Outside → List ℕ
outside_line n what = (codes "fault outside PostgreSQL statement " ++ decimal n ++ codes ": ") ++ outside_words what ++ 10 ∷ []

-- the line of a fault of a run
abbrev pub fault_line : Fault → List ℕ
fault_line = run.fault_line

-- the last line: that of the fault, and else none
abbrev pub line_of : End → List ℕ
line_of (Err (sql.Outside statement what)) = outside_line statement what
line_of end = run.line_of (run_end end)

-- a device failed or memory ran out, and nothing is told of the script
abbrev pub is_cut : End → Bool
is_cut (Ok done) = false
is_cut (Err (sql.Outside statement what)) = false
is_cut (Err (sql.Run (stops.Fault fault))) = false
is_cut (Err (sql.Run stops.ReadFault)) = true
is_cut (Err (sql.Run stops.FileFault)) = true
is_cut (Err (sql.Run stops.WriteFault)) = true
is_cut (Err (sql.Run stops.NoMemory)) = true
