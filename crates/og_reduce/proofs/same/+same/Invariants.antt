use Rattle.std.proofs.Common.{◌≡◌, ℤ, true, take}
use Rattle.std.specs.List.{list_all}
use Rattle.og_query.specs.Conditions.{truth}
use Rattle.og_query.specs.Queries.{Fixed}
use Rattle.og_reduce.specs.Sieves.{passes}
use Rattle.og_reduce.proofs.same.+same.Given as goal

abbrev pub invariant-share_each-parts : goal.invariant-share_each-parts
invariant-share_each-parts l = (d : ℤ) (row : Fixed) → list_all (truth d row) (take l.part-index l.part-items) ≡ true → passes l.fn.tests.items row ≡ true → passes l.tests.items row ≡ true
