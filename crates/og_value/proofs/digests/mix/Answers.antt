use Rattle.std.proofs.Common.{refl}
use Rattle.og_value.specs.Groups.{mixed}
use Rattle.og_value.proofs.digests.mix.Goals as goal

pub returns : goal.returns
unfolding mixed
returns c = refl
