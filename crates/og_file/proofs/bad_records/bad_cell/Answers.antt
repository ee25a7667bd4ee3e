use Rattle.std.proofs.Common.{rules, ◌++◌, ◌∷◌, [], sym, take}
use Rattle.csv.specs.Records.{fields_of}
use Rattle.csv.proofs.RecordFacts.{field-there}
use Rattle.og_file.proofs.CellLemmas.{next_column, next_field, next_cell}
use Rattle.og_file.proofs.bad_records.bad_cell.Goals as goal

pub returns-in_default-clause-none : goal.returns-in_default-clause-none
returns-in_default-clause-none c = absurd (field-there (fields_of c.args.fields.now) c.columns.i (search rules) (sym c.in_default.ensures.value))

pub columns-preserved : goal.columns-preserved
columns-preserved c =
    let i = c.columns.i in
    let columns = c.args.schema.now in
    let fields = fields_of c.args.fields.now in
    let row = c.columns.invariant in
    let cells = next_cell (take i columns) (take i fields) row.0 c.column-column.result.now c.in-Some.field.now c.in-Ok.value row.1 c.in-Ok.ensures.value in
    (row.0 ++ c.in-Ok.value ∷ [], rw (next_column columns i c.column-column.result.now c.column-column.ensures, next_field fields i c.in-Some.field.now (sym c.in-Some.ensures.value)) cells)
