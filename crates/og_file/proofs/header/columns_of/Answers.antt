use Rattle.std.proofs.Common.{rules, sym, take}
use Rattle.csv.specs.Records.{fields_of}
use Rattle.csv.proofs.RecordFacts.{field-there}
use Rattle.og_file.proofs.CellLemmas.{next_field}
use Rattle.og_file.proofs.HeaderLemmas.{column_at, next_column}
use Rattle.og_file.proofs.header.columns_of.Goals as goal

pub returns-in_default-clause-none : goal.returns-in_default-clause-none
returns-in_default-clause-none c = λ columns are. field-there (fields_of c.args.fields.now) c.fields.i (search rules) (sym c.in_default.ensures.value)

pub returns-in_default-2-clause-none : goal.returns-in_default-2-clause-none
returns-in_default-2-clause-none c = λ columns are.
    let column = column_at (fields_of c.args.fields.now) columns c.args.count c.fields.i c.in-Some.field.now (search rules) are (sym c.in-Some.ensures.value) in
    (rw c.in_default-2.is at c.in_ok-column.ensures.none) column.0 column.1

pub fields-preserved : goal.fields-preserved
fields-preserved c =
    let i = c.fields.i in
    let fields = fields_of c.args.fields.now in
    let columns = next_column (take i fields) c.fields.columns.items c.in-Some.field.now c.in-Some-2.column c.fields.invariant (rw c.in-Some-2.is at c.in_ok-column.ensures.column) in
    rw (next_field fields i c.in-Some.field.now (sym c.in-Some.ensures.value), c.in_ok-push.ensures.items) columns
