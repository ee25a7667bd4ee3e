use Rattle.og_file.proofs.NoFaults.{no_table_fault}
use Rattle.og_file.proofs.laws.no_fault_of_a_table_file.Goals as goal

pub returns : goal.returns
returns c = no_table_fault
