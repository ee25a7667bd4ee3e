use Rattle.std.proofs.Common.{◌≡◌, ◌≤◌, ◌++◌}
use Rattle.og_join.specs.Sweep.{row_places}
use Rattle.og_join.proofs.sweep.push_row.Given as goal

abbrev pub invariant-places : goal.invariant-places
invariant-places l = record {
  count : l.k ≤ l.count;
  places : l.found.items ≡ l.initial.found.items ++ row_places l.i l.j l.k;
}
