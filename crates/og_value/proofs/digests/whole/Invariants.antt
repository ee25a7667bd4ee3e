use Rattle.std.proofs.Common.{◌≡◌, take}
use Rattle.og_value.specs.Groups.{whole_row}
use Rattle.og_value.proofs.digests.whole.Given as goal

abbrev pub invariant-values : goal.invariant-values
invariant-values l = l.digest ≡ whole_row l.seed (take l.value-index l.values)
