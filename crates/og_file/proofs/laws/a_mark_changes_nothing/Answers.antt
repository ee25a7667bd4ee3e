use Rattle.og_file.proofs.MarkedBytes.{a_mark_changes_nothing}
use Rattle.og_file.proofs.laws.a_mark_changes_nothing.Goals as goal

pub returns : goal.returns
returns c = a_mark_changes_nothing
