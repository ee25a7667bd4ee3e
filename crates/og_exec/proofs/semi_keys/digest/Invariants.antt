use Rattle.std.proofs.Common.{◌≡◌, take}
use Rattle.og_exec.specs.SemiKeys.{digest}
use Rattle.og_exec.proofs.semi_keys.digest.Given as goal

abbrev pub invariant-parts : goal.invariant-parts
invariant-parts l = l.digest ≡ digest l.left l.width (take l.part-index l.part-items) l.row
