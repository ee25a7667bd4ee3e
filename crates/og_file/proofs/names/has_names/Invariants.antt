use Rattle.std.proofs.Common.{take}
use Rattle.csv.specs.Records.{fields_of}
use Rattle.og_file.specs.TableFile.{HasNames}
use Rattle.og_file.proofs.names.has_names.Given as goal

abbrev pub invariant-columns : goal.invariant-columns
invariant-columns l = HasNames (take l.i l.schema) (take l.i (fields_of l.fields))
