use Rattle.std.proofs.Common.{◌≡◌, filter, take}
use Rattle.og_plan.specs.Homes.{home_of, same_home}
use Rattle.og_plan.proofs.homes.parts_at.Given as goal

abbrev pub invariant-parts : goal.invariant-parts
invariant-parts l = l.here ≡ filter (λ part. same_home (home_of l.widths part) l.home) (take l.part-index l.parts)
