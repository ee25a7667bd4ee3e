use Rattle.std.proofs.Common.{◌≡◌, take}
use Rattle.std.specs.List.{flat_map}
use Rattle.og_plan.specs.Parts.{parts_of}
use Rattle.og_plan.proofs.parts.+parts.Given as goal

abbrev pub invariant-all_parts-conds : goal.invariant-all_parts-conds
invariant-all_parts-conds l = l.all ≡ flat_map parts_of (take l.cond-index l.cond-items)
