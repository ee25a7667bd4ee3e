use Rattle.std.proofs.Common.{◌≡◌, take}
use Rattle.std.specs.List.{flat_map}
use Rattle.og_plan.specs.Joins.{listed, overlap_of}
use Rattle.og_plan.proofs.joins.overlaps_of.Given as goal

abbrev pub invariant-parts : goal.invariant-parts
invariant-parts l = l.pairs ≡ flat_map (λ part. listed (overlap_of l.start part)) (take l.part-index l.part-items)
