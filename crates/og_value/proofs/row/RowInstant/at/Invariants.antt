use Rattle.std.proofs.Common.{◌≡◌, take}
use Rattle.og_value.specs.Values.{row_at}
use Rattle.og_value.proofs.row.RowInstant.at.Given as goal

abbrev pub invariant-values : goal.invariant-values
invariant-values l = l.values ≡ row_at (take l.value-index l.self) l.d
