use Rattle.std.proofs.Common.{take}
use Rattle.std.specs.List.{All}
use Rattle.og_base.specs.Ranges.{IsNormal}
use Rattle.og_rel.proofs.pair.sets_are_normal.Given as goal

abbrev pub invariant-pairs : goal.invariant-pairs
invariant-pairs g l = All (λ p. IsNormal p.days) (take l.pair-index l.pairs)
