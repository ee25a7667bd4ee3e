use Rattle.og_file.proofs.OneLists.{begins_all, one_list}
use Rattle.og_file.proofs.laws.one_list_of_records.Goals as goal

pub returns-clause-one : goal.returns-clause-one
returns-clause-one c = one_list

pub returns-clause-first : goal.returns-clause-first
returns-clause-first c = begins_all
