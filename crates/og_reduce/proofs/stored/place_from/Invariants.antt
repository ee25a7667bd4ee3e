use Rattle.std.proofs.Common.{◌≤◌, ◌<◌, ◌-◌, ℕ, get_or, length}
use Rattle.og_reduce.proofs.stored.place_from.Given as goal

abbrev pub invariant-places : goal.invariant-places
invariant-places l = record {
  most : l.k ≤ length l.at;
  before : (j : ℕ) → j < l.k → get_or l.at j 0 < l.i;
}

abbrev pub decreases-places : goal.decreases-places
decreases-places l = length l.at - l.k
