use Rattle.std.proofs.Common.{◌≡◌, filter, not, take}
use Rattle.std.specs.Option.{is_some}
use Rattle.og_plan.specs.Joins.{key_of}
use Rattle.og_plan.proofs.joins.without_keys.Given as goal

abbrev pub invariant-parts : goal.invariant-parts
invariant-parts l = l.rest ≡ filter (λ part. not (is_some (key_of l.kinds l.start part))) (take l.part-index l.part-items)
