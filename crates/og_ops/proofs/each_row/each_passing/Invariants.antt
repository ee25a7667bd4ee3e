use Rattle.std.proofs.Common.{◌≡◌, ◌*◌, ◌≤◌, ℤ, length, map, take}
use Rattle.og_base.specs.Calendar.{IsRefDay}
use Rattle.og_rel.specs.Relations.{passing, present}
use Rattle.og_ops.proofs.each_row.each_passing.Given as goal

abbrev pub invariant-pairs : goal.invariant-pairs
invariant-pairs g l = record {
  rows : (d : ℤ) → IsRefDay d → present g.R.Instant.meaning l.made d
      ≡ g.O.EachRow.becomes l.op d (present g.R.Instant.meaning (passing (g.T.RowTest.passes l.test) (map (λ p. (p.row, p.days)) (take l.pair-index l.pairs))) d);
  size : length l.made ≤ g.O.EachRow.most_of_one l.op * length (passing (g.T.RowTest.passes l.test) (map (λ p. (p.row, p.days)) (take l.pair-index l.pairs)));
}
