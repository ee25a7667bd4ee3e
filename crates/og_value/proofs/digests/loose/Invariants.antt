use Rattle.std.proofs.Common.{◌≡◌, take}
use Rattle.og_value.specs.Groups.{loose_row}
use Rattle.og_value.proofs.digests.loose.Given as goal

abbrev pub invariant-values : goal.invariant-values
invariant-values l = l.digest ≡ loose_row l.seed (take l.value-index l.values)
