use Rattle.std.proofs.Common.{◌≡◌, true, take}
use Rattle.og_query.specs.Queries.{Fixed}
use Rattle.og_reduce.specs.Sieves.{passes, tests_from}
use Rattle.og_reduce.proofs.sieve.Sieve.of.Given as goal

abbrev pub invariant-columns : goal.invariant-columns
invariant-columns l = (row : Fixed) → passes (tests_from l.start (take l.i l.columns)) row ≡ true → passes l.tests.items row ≡ true
