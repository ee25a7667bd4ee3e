use Rattle.og_check.proofs.FoundColumns.{found_stands}
use Rattle.og_check.proofs.laws.found_columns.Goals as goal

pub returns : goal.returns
returns c sight table name place kind e = found_stands sight table name place kind e
