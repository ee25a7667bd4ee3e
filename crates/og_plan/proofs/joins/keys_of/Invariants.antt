use Rattle.std.proofs.Common.{◌≡◌, take}
use Rattle.std.specs.List.{flat_map}
use Rattle.og_plan.specs.Joins.{listed, key_of}
use Rattle.og_plan.proofs.joins.keys_of.Given as goal

abbrev pub invariant-parts : goal.invariant-parts
invariant-parts l = l.keys ≡ flat_map (λ part. listed (key_of l.kinds l.start part)) (take l.part-index l.part-items)
