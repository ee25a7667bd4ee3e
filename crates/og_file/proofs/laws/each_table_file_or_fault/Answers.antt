use Rattle.og_file.proofs.TableChoice.{each_table_file_or_fault}
use Rattle.og_file.proofs.laws.each_table_file_or_fault.Goals as goal

pub returns : goal.returns
returns c = each_table_file_or_fault
