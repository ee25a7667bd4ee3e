use Rattle.std.proofs.Common.{◌≡◌, ℤ, take}
use Rattle.og_base.specs.Calendar.{IsRefDay}
use Rattle.og_value.specs.Values.{row_at}
use Rattle.og_output.proofs.freeze.RowFreezerFreezerRow.frozen.Given as goal

abbrev pub invariant-values : goal.invariant-values
invariant-values l = (e : ℤ) → IsRefDay e → row_at l.values.items e ≡ row_at (take l.i l.row) l.d
