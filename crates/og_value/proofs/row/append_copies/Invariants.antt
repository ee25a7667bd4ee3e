use Rattle.std.proofs.Common.{◌≡◌, ◌++◌, take}
use Rattle.og_value.proofs.row.append_copies.Given as goal

abbrev pub invariant-values : goal.invariant-values
invariant-values l = l.out ≡ l.initial.out ++ take l.value-index l.values
