use Rattle.std.proofs.Common.{◌≡◌, take}
use Rattle.og_db.proofs.assignments.values_in.Given as goal

abbrev pub invariant-values : goal.invariant-values
invariant-values l = l.values.items ≡ take l.i l.row
