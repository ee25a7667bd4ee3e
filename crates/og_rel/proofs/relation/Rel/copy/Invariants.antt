use Rattle.std.proofs.Common.{◌≡◌, take}
use Rattle.og_rel.proofs.relation.Rel.copy.Given as goal

abbrev pub invariant-pairs : goal.invariant-pairs
invariant-pairs g l = l.pairs.items ≡ take l.pair-index l.pair-items
