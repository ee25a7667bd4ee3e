use Rattle.std.proofs.Common.{◌≡◌, ◌≤◌, ◌-◌, length, take}
use Rattle.og_rel.specs.Relations.{passing}
use Rattle.og_rel.specs.Places.{places}
use Rattle.og_reduce.proofs.stored.Stored.found.Given as goal

abbrev pub invariant-rows : goal.invariant-rows
invariant-rows g l = record {
  within : l.i ≤ length l.self;
  places : l.at.items ≡ places (λ p. g.T.RowTest.passes l.test p.0) (take l.i l.self);
  rows : l.rows ≡ passing (g.T.RowTest.passes l.test) (take l.i l.self);
}

abbrev pub decreases-rows : goal.decreases-rows
decreases-rows g l = length l.self - l.i
