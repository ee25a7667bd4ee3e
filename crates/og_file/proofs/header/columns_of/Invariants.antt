use Rattle.std.proofs.Common.{take}
use Rattle.csv.specs.Records.{fields_of}
use Rattle.og_file.specs.SavedFile.{AreColumns}
use Rattle.og_file.proofs.header.columns_of.Given as goal

abbrev pub invariant-fields : goal.invariant-fields
invariant-fields l = AreColumns (take l.i (fields_of l.fields)) l.columns.items
