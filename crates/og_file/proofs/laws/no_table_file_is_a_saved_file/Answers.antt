use Rattle.og_file.proofs.NoTableFiles.{no_saved_file, no_table_file_one}
use Rattle.og_file.proofs.laws.no_table_file_is_a_saved_file.Goals as goal

pub returns-clause-one : goal.returns-clause-one
returns-clause-one c = no_table_file_one

pub returns-clause-table : goal.returns-clause-table
returns-clause-table c = no_saved_file
