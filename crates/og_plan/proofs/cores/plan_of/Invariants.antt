use Rattle.std.proofs.Common.{◌≡◌, fold, take}
use Rattle.og_plan.specs.PlanOf.{core_plan}
use Rattle.og_plan.specs.declared.plan.Plan.TheVariants.{Combine}
use Rattle.og_plan.proofs.cores.plan_of.Given as goal

abbrev pub invariant-rests : goal.invariant-rests
invariant-rests l = l.plan ≡ fold (λ left rest. Combine rest.op left (core_plan rest.core)) (core_plan l.query.first) (take l.rest-index l.rest-items)
