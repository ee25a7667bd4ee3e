use Rattle.std.proofs.Common.{◌≡◌, true, take}
use Rattle.std.specs.List.{All}
use Rattle.og_reduce.specs.Sieves.{row_meets}
use Rattle.og_reduce.proofs.sieve.Keys.of.Given as goal

abbrev pub invariant-rows : goal.invariant-rows
invariant-rows l = All (λ p. row_meets p.0 (l.column, l.keys) ≡ true) (take l.i l.rows)
