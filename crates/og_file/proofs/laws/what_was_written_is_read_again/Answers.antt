use Rattle.std.proofs.Common.{inr}
use Rattle.og_file.proofs.ReadBackLemmas.{plain_file, read_again}
use Rattle.og_file.proofs.laws.what_was_written_is_read_again.Goals as goal

pub returns-clause-saved : goal.returns-clause-saved
returns-clause-saved c = λ bytes columns pairs plain. inr plain.version

pub returns-clause-same : goal.returns-clause-same
returns-clause-same c = read_again

pub returns-clause-text : goal.returns-clause-text
returns-clause-text c = plain_file
