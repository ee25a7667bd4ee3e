use Rattle.std.proofs.Common.{◌≡◌, true, take}
use Rattle.std.specs.List.{list_all}
use Rattle.og_reduce.specs.Sieves.{row_meets}
use Rattle.og_reduce.proofs.sieve.Sieve.passes_each.Given as goal

abbrev pub invariant-tests : goal.invariant-tests
invariant-tests l = list_all (row_meets l.row) (take l.test-index l.test-items) ≡ true
