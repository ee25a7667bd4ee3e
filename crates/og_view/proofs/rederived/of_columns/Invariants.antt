use Rattle.std.proofs.Common.{◌≡◌, ℤ, true}
use Rattle.og_query.specs.Queries.{Fixed, image}
use Rattle.og_reduce.specs.Sieves.{passes}
use Rattle.og_view.proofs.rederived.of_columns.Given as goal

abbrev pub invariant-tests : goal.invariant-tests
invariant-tests l = (d : ℤ) (row : Fixed) → passes l.sieve (image d l.items row) ≡ true → passes l.tests.items row ≡ true
