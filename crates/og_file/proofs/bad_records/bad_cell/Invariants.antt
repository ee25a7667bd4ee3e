use Rattle.std.proofs.Common.{List, take}
use Rattle.csv.specs.Records.{fields_of}
use Rattle.og_value.specs.declared.value.Value.{Value}
use Rattle.og_file.specs.TableFile.{AreCells}
use Rattle.og_file.proofs.bad_records.bad_cell.Given as goal

abbrev pub invariant-columns : goal.invariant-columns
invariant-columns l = (row : List Value) × AreCells (take l.i l.schema) (take l.i (fields_of l.fields)) row
