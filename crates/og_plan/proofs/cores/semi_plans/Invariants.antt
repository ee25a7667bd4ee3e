use Rattle.std.proofs.Common.{◌≡◌, map, take}
use Rattle.og_plan.specs.PlanOf.{semi_plan}
use Rattle.og_plan.proofs.cores.semi_plans.Given as goal

abbrev pub invariant-semis : goal.invariant-semis
invariant-semis l = l.planned ≡ map semi_plan (take l.semi-index l.semis)
