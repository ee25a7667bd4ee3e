use Rattle.og_value.proofs.CellTexts.{int_text-utf8}
use Rattle.og_value.proofs.cell.read_int.Goals as goal

pub returns-in_default-clause-lacking : goal.returns-in_default-clause-lacking
returns-in_default-clause-lacking c n h = c.in_default.ensures.cases.0 (int_text-utf8 c.args.text.now n h)
