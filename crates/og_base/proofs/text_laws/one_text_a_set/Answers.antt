use Rattle.og_base.proofs.SetTexts.{one_set}
use Rattle.og_base.proofs.text_laws.one_text_a_set.Goals as goal

pub returns : goal.returns
returns c = one_set
