use Rattle.std.proofs.Common.{◌≡◌, drop, map}
use Rattle.og_check.specs.Expressions.{cond_of}
use Rattle.og_check.specs.Fronts.{with_front}
use Rattle.og_check.specs.Steps.{in_order}
use Rattle.og_check.proofs.conditions.+conditions.Given as goal

abbrev pub invariant-parts_of-each : goal.invariant-parts_of-each
invariant-parts_of-each l = with_front l.conds (in_order (map (cond_of l.sight) (drop l.part-index l.part-items))) ≡ in_order (map (cond_of l.sight) l.part-items)
