use Rattle.std.proofs.Common.{◌≡◌, false, take}
use Rattle.std.specs.List.{list_any}
use Rattle.std.specs.Option.{is_some}
use Rattle.og_exec.specs.SemiKeys.{pair_of}
use Rattle.og_exec.proofs.semi_keys.say_equal.Given as goal

abbrev pub invariant-parts : goal.invariant-parts
invariant-parts l = list_any (λ part. is_some (pair_of l.width part)) (take l.part-index l.part-items) ≡ false
