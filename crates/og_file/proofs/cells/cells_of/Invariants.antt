use Rattle.std.proofs.Common.{take}
use Rattle.csv.specs.Records.{fields_of}
use Rattle.og_file.specs.TableFile.{AreCells}
use Rattle.og_file.proofs.cells.cells_of.Given as goal

abbrev pub invariant-columns : goal.invariant-columns
invariant-columns l = AreCells (take l.i l.schema) (take l.i (fields_of l.fields)) l.row
