use Rattle.og_file.proofs.SavedAgain.{can_be_saved, saved_again}
use Rattle.og_file.proofs.laws.a_saved_file_can_be_saved_again.Goals as goal

pub returns-clause-held : goal.returns-clause-held
returns-clause-held c = can_be_saved

pub returns-clause-again : goal.returns-clause-again
returns-clause-again c = saved_again
