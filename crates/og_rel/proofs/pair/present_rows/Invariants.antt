use Rattle.std.proofs.Common.{◌≡◌, take}
use Rattle.og_rel.specs.Pairs.{present_of_pairs}
use Rattle.og_rel.proofs.pair.present_rows.Given as goal

abbrev pub invariant-pairs : goal.invariant-pairs
invariant-pairs g l = l.rows.items ≡ present_of_pairs g.R.Instant.meaning (take l.pair-index l.pairs) l.d
