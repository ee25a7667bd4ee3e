use Rattle.std.proofs.Common.{◌≡◌, ◌≤◌, ◌++◌, length, take, drop, None}
use Rattle.og_query.specs.Walk.{next_places, zeros}
use Rattle.og_query.proofs.walk.advance.Given as goal

abbrev pub decreases-back : goal.decreases-back
decreases-back l = l.i

abbrev pub invariant-back : goal.invariant-back
invariant-back l = record {
  within : l.i ≤ length l.sizes;
  wrapped : l.places.items ≡ take l.i l.fn.places.items ++ zeros (drop l.i l.sizes);
  ended : next_places (drop l.i l.sizes) (drop l.i l.fn.places.items) ≡ None;
}
