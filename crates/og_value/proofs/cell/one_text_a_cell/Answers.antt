use Rattle.og_value.proofs.CellTexts.{one_value, one_fixed}
use Rattle.og_value.proofs.cell.one_text_a_cell.Goals as goal

pub returns-clause-one_value : goal.returns-clause-one_value
returns-clause-one_value c = one_value

pub returns-clause-one_text : goal.returns-clause-one_text
returns-clause-one_text c = one_fixed
