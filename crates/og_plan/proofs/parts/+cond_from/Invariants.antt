use Rattle.std.proofs.Common.{◌≡◌, map, take}
use Rattle.og_plan.specs.Parts.{cond_from}
use Rattle.og_plan.proofs.parts.+cond_from.Given as goal

abbrev pub invariant-all_from-all : goal.invariant-all_from-all
invariant-all_from-all l = l.moved ≡ map (cond_from l.start) (take l.cond-index l.cond-items)
