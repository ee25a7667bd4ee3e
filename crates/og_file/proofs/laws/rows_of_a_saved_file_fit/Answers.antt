use Rattle.og_file.proofs.Fitting.{saved_fits}
use Rattle.og_file.proofs.laws.rows_of_a_saved_file_fit.Goals as goal

pub returns : goal.returns
returns c = saved_fits
