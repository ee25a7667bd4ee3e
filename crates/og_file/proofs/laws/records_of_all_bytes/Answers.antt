use Rattle.og_file.proofs.AllBytes.{records_of_all_bytes}
use Rattle.og_file.proofs.laws.records_of_all_bytes.Goals as goal

pub returns : goal.returns
returns c = records_of_all_bytes
