use Rattle.std.proofs.Common.{◌≡◌, ◌≤◌, ◌++◌}
use Rattle.og_join.specs.Sweep.{column_places}
use Rattle.og_join.proofs.sweep.push_column.Given as goal

abbrev pub invariant-places : goal.invariant-places
invariant-places l = record {
  count : l.k ≤ l.count;
  places : l.found.items ≡ l.initial.found.items ++ column_places l.i l.j l.k;
}
