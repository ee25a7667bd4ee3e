use Rattle.std.proofs.Common.{Err, ap, refl}
use Rattle.og_file.proofs.saved.add_two.Goals as goal

pub returns-in-Err-NotACell-clause-fault : goal.returns-in-Err-NotACell-clause-fault
returns-in-Err-NotACell-clause-fault c = (refl, c.in-Err-NotACell.ensures.none (ap Err c.in-Err-NotACell.field-0-is))
