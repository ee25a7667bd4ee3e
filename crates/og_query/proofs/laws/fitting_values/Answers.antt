use Rattle.og_query.proofs.KindLemmas.{value_has_its_kind}
use Rattle.og_query.proofs.laws.fitting_values.Goals as goal

pub returns : goal.returns
returns c = value_has_its_kind
