use Rattle.std.proofs.Common.{◌≡◌, ◌++◌, take}
use Rattle.og_query.proofs.values.append_row.Given as goal

abbrev pub invariant-values : goal.invariant-values
invariant-values l = l.out.items ≡ l.fn.out.items ++ take l.i l.row
