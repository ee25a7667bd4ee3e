use Rattle.csv.specs.Records.{fields_of}
use Rattle.og_file.specs.SavedFile.{two}
use Rattle.og_file.proofs.RowLemmas.{no_field_of_days}
use Rattle.og_file.proofs.rows.row_two.Goals as goal

pub returns-in_default-clause-none : goal.returns-in_default-clause-none
returns-in_default-clause-none c = λ _. no_field_of_days two c.args.schema.now (fields_of c.args.fields.now) c.in_default.ensures.none
