use Rattle.std.proofs.Common.{refl}
use Rattle.og_outline.proofs.laws.no_outline.Goals as goal

pub returns : goal.returns
returns c = record { names = refl; live = refl; files = λ file. refl }
