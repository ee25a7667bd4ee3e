use Rattle.std.proofs.Common.{◌≡◌, filter, take}
use Rattle.og_rel.proofs.relation.Rel.passing.Given as goal

abbrev pub invariant-pairs : goal.invariant-pairs
invariant-pairs g l = l.pairs.items ≡ filter (λ p. g.T.RowTest.passes l.test p.row) (take l.pair-index l.pair-items)
