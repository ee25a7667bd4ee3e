use Rattle.std.proofs.Common.{◌≡◌, ◌++◌, codes, take}
use Rattle.std.specs.List.{flat_map}
use Rattle.og_plan.specs.Words.{pair_text}
use Rattle.og_plan.proofs.words.more_pairs.Given as goal

abbrev pub invariant-pairs : goal.invariant-pairs
invariant-pairs l = l.out.items ≡ l.fn.out.items ++ flat_map (λ pair. codes "," ++ pair_text pair) (take l.pair-index l.pairs)
