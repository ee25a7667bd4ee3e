use Rattle.og_file.proofs.NoTableFiles.{no_table_file_two}
use Rattle.og_file.proofs.laws.a_saved_file_is_no_table_file.Goals as goal

pub returns : goal.returns
returns c = no_table_file_two
