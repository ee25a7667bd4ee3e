use Rattle.og_file.proofs.OneFaults.{one_fault_of_a_table_file}
use Rattle.og_file.proofs.laws.one_fault_of_a_table_file.Goals as goal

pub returns : goal.returns
returns c = one_fault_of_a_table_file
