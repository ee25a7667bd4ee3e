use Rattle.std.proofs.Common.{◌≡◌, take}
use Rattle.std.specs.List.{fold}
use Rattle.og_value.specs.Groups.{mixed}
use Rattle.og_value.proofs.digests.mix_text.Given as goal

abbrev pub invariant-bytes : goal.invariant-bytes
invariant-bytes l = l.digest ≡ fold mixed l.seed (take l.byte-index l.text)
