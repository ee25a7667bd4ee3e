use Rattle.std.proofs.Common.{rules}
use Rattle.csv.specs.Records.{fields_of}
use Rattle.og_file.proofs.HeaderLemmas.{too_many, schema_columns}
use Rattle.og_file.proofs.header.schema_of.Goals as goal

pub returns-then-count-gt-MAX_COLUMNS-clause-none : goal.returns-then-count-gt-MAX_COLUMNS-clause-none
returns-then-count-gt-MAX_COLUMNS-clause-none c = λ columns are.
    too_many (fields_of c.args.fields.now) c.args.count c.min-count.result columns (search rules) (search rules) are

pub of-requires : goal.of-requires
of-requires c =
    let columns = rw c.in-Some.is at c.in_ok-columns.ensures.columns in
    schema_columns (fields_of c.args.fields.now) c.args.count c.min-count.result c.in-Some.columns.items (search rules) (search rules) (search rules) columns
