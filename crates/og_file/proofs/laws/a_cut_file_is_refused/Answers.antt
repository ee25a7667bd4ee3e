use Rattle.og_file.proofs.CutFiles.{a_cut_file_one, a_cut_file_two, fault_one, fault_two}
use Rattle.og_file.proofs.laws.a_cut_file_is_refused.Goals as goal

pub returns-clause-one : goal.returns-clause-one
returns-clause-one c = a_cut_file_one

pub returns-clause-two : goal.returns-clause-two
returns-clause-two c = a_cut_file_two

pub returns-clause-fault_one : goal.returns-clause-fault_one
returns-clause-fault_one c = fault_one

pub returns-clause-fault_two : goal.returns-clause-fault_two
returns-clause-fault_two c = fault_two
