use Rattle.og_file.proofs.OneLists.{one_table}
use Rattle.og_file.proofs.laws.one_table_file.Goals as goal

pub returns : goal.returns
returns c = one_table
