use Rattle.og_file.proofs.SavedChoice.{each_saved_file_or_fault}
use Rattle.og_file.proofs.laws.each_saved_file_or_fault.Goals as goal

pub returns : goal.returns
returns c = each_saved_file_or_fault
