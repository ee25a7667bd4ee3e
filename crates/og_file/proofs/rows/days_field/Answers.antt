use Rattle.std.proofs.Common.{rules, length}
use Rattle.csv.specs.Records.{fields_of}
use Rattle.og_file.proofs.RowLemmas.{last_field, no_last}
use Rattle.og_file.proofs.rows.days_field.Goals as goal

pub returns-in_default-clause-none : goal.returns-in_default-clause-none
returns-in_default-clause-none c = λ cells field long is.
    no_last (fields_of c.args.fields.now) cells (length c.args.schema.now) field (search rules) long is

pub returns-clause-last : goal.returns-clause-last
returns-clause-last c = last_field (fields_of c.args.fields.now) (length c.args.schema.now) c.in-Some.field.now (search rules) (search rules)
