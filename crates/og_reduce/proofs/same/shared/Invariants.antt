use Rattle.std.proofs.Common.{◌≡◌, ℤ, true}
use Rattle.og_query.specs.Conditions.{truth}
use Rattle.og_query.specs.Queries.{Fixed}
use Rattle.og_reduce.specs.Sieves.{passes}
use Rattle.og_reduce.proofs.same.shared.Given as goal

abbrev pub invariant-others : goal.invariant-others
invariant-others l = (d : ℤ) (row : Fixed) → truth d row l.cond ≡ true → passes l.fn.sieve row ≡ true → passes l.tests.items row ≡ true
