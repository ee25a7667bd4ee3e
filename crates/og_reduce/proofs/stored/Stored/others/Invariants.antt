use Rattle.std.proofs.Common.{◌≡◌, ◌≤◌, ◌<◌, ◌-◌, ℕ, filter, get_or, length, take}
use Rattle.og_rel.specs.Places.{others_at}
use Rattle.og_reduce.proofs.stored.Stored.others.Given as goal

abbrev pub invariant-rows : goal.invariant-rows
invariant-rows g l = record {
  within : l.i ≤ length l.self;
  most : l.k ≤ length l.at;
  before : (j : ℕ) → j < l.k → get_or l.at j 0 < l.i;
  rows : l.rows ≡ filter (λ p. g.T.RowTest.passes l.test p.0) (others_at l.at (take l.i l.self));
}

abbrev pub decreases-rows : goal.decreases-rows
decreases-rows g l = length l.self - l.i
