use Rattle.std.proofs.Common.{◌≡◌, take}
use Rattle.og_value.specs.Values.{row_at}
use Rattle.og_rel.specs.Pairs.{present_of_pairs}
use Rattle.og_output.proofs.sights.present_sights.Given as goal

abbrev pub invariant-pairs : goal.invariant-pairs
invariant-pairs l = l.sights.items ≡ present_of_pairs row_at (take l.pair-index l.pairs) l.day
