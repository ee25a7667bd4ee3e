use Rattle.std.proofs.Common.{◌≡◌, ℤ, take}
use Rattle.og_base.specs.Calendar.{IsRefDay}
use Rattle.og_value.specs.Values.{row_at}
use Rattle.og_db.specs.Statements.{assigned}
use Rattle.og_db.proofs.assignments.AssignmentsRowMapRow.map.Given as goal

abbrev pub invariant-sets : goal.invariant-sets
invariant-sets l = (d : ℤ) → IsRefDay d → row_at l.values.items d ≡ assigned d (take l.one-index l.one-items) (row_at l.row d)
