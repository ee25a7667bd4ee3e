use Rattle.std.proofs.Common.{◌+◌, ◌*◌, ◌-◌, ◌≤◌, ◌++◌, length, drop, IsPermutation}
use Rattle.og_join.specs.Overlaps.{overlaps}
use Rattle.og_join.proofs.sweep.candidates.Given as goal

abbrev pub invariant-sweep : goal.invariant-sweep
invariant-sweep g l = record {
  left_place : l.i ≤ length l.left;
  right_place : l.j ≤ length l.right;
  exact : IsPermutation (l.found.items ++ overlaps g.E.Envelope.lo g.E.Envelope.hi l.i l.j (drop l.i l.left) (drop l.j l.right)) (overlaps g.E.Envelope.lo g.E.Envelope.hi 0 0 l.left l.right);
  cost : l.steps ≤ l.initial.steps + 2 * (l.i + l.j) + length l.found.items;
  later : l.initial.steps ≤ l.steps;
}

abbrev pub decreases-sweep : goal.decreases-sweep
decreases-sweep g l = (length l.left - l.i) + (length l.right - l.j)
