use Rattle.std.proofs.Common.{◌≡◌, true, length}
use Rattle.std.specs.List.{All}
use Rattle.og_reduce.specs.Sieves.{row_passes, tests_from}
use Rattle.og_reduce.proofs.sieve.keys_of.Given as goal

abbrev pub invariant-columns : goal.invariant-columns
invariant-columns l = (length l.keys.items ≡ l.column) × All (λ p. row_passes (tests_from 0 l.keys.items) p.0 ≡ true) l.rows
