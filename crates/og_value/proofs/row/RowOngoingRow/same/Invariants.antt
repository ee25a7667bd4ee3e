use Rattle.std.proofs.Common.{◌≡◌, ℤ, take}
use Rattle.std.specs.Bool.{Decides}
use Rattle.og_base.specs.Calendar.{IsRefDay}
use Rattle.og_base.specs.Ranges.{holds_day}
use Rattle.og_value.specs.Values.{row_at}
use Rattle.og_value.proofs.row.RowOngoingRow.same.Given as goal

abbrev pub invariant-columns : goal.invariant-columns
invariant-columns l = (d : ℤ) → IsRefDay d → Decides (holds_day l.days d) (row_at (take l.i l.self) d ≡ row_at (take l.i l.other) d)
