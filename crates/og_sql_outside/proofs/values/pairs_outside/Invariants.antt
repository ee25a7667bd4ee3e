use Rattle.std.proofs.Common.{◌≡◌, drop}
use Rattle.og_sql_outside.specs.Outside.{first_in, outside_pair}
use Rattle.og_sql_outside.proofs.values.pairs_outside.Given as goal

abbrev pub invariant-pairs : goal.invariant-pairs
invariant-pairs l = first_in (λ p. outside_pair (p.row, p.days)) l.pairs ≡ first_in (λ p. outside_pair (p.row, p.days)) (drop l.pair-index l.pairs)
