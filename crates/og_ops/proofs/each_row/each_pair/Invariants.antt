use Rattle.std.proofs.Common.{◌≡◌, ◌*◌, ◌≤◌, ℤ, length, take}
use Rattle.og_base.specs.Calendar.{IsRefDay}
use Rattle.og_rel.specs.Pairs.{present_of_pairs}
use Rattle.og_rel.specs.Relations.{present}
use Rattle.og_ops.proofs.each_row.each_pair.Given as goal

abbrev pub invariant-pairs : goal.invariant-pairs
invariant-pairs g l = record {
  rows : (d : ℤ) → IsRefDay d → present g.R.Instant.meaning l.made d ≡ g.O.EachRow.becomes l.op d (present_of_pairs g.R.Instant.meaning (take l.pair-index l.pairs) d);
  size : length l.made ≤ g.O.EachRow.most_of_one l.op * l.pair-index;
}
