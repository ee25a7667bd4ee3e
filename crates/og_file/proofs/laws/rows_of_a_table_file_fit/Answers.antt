use Rattle.og_file.proofs.Fitting.{table_fits}
use Rattle.og_file.proofs.laws.rows_of_a_table_file_fit.Goals as goal

pub returns : goal.returns
returns c = λ columns bytes rows file. table_fits columns file.1 rows file.4
