use Rattle.og_file.proofs.OneSaved.{one_file}
use Rattle.og_file.proofs.laws.one_saved_file.Goals as goal

pub returns : goal.returns
returns c = one_file
