use Rattle.og_outline.proofs.OutlineLemmas.{known_same}
use Rattle.og_outline.proofs.laws.known_outline.Goals as goal

pub returns : goal.returns
returns c = known_same
