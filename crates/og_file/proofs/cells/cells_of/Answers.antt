use Rattle.std.proofs.Common.{rules, ◌≡◌, ◌∙◌, Err, ap, sym, length, take}
use Rattle.std.proofs.lemmas.Result.{err_from_is_err_and}
use Rattle.csv.specs.Records.{fields_of}
use Rattle.og_value.specs.declared.cell.CellRefusal.{CellRefusal}
use Rattle.og_file.proofs.CellLemmas.{next_column, next_field, next_cell, cell_at, no_field}
use Rattle.og_file.proofs.cells.cells_of.Goals as goal

pub returns-in_default-get-clause-none : goal.returns-in_default-get-clause-none
returns-in_default-get-clause-none c = λ _ row are. no_field c.args.schema.now (fields_of c.args.fields.now) row (length c.args.schema.now) c.columns.i are (search rules) (sym c.in_default-get.ensures.value)

pub returns-in_err-value-clause-none : goal.returns-in_err-value-clause-none
returns-in_err-value-clause-none c = λ same row are.
    let cell = cell_at c.args.schema.now (fields_of c.args.fields.now) row (length c.args.schema.now) c.columns.i c.column.result.now c.in-Some.field.now are c.column.ensures (sym c.in-Some.ensures.value) in
    let given = err_from_is_err_and c.from_residual.result c.from_residual.ensures.1 in
    let refused : c.in_err-value.field-0.0 ≡ CellRefusal.NotACell = cc (sym (given.1 ∙ ap Err given.2) ∙ same) in
    c.in_err-value.ensures.not_a_cell (ap Err refused) cell.0 cell.1

pub columns-preserved : goal.columns-preserved
columns-preserved c =
    let i = c.columns.i in
    let columns = c.args.schema.now in
    let fields = fields_of c.args.fields.now in
    let cells = next_cell (take i columns) (take i fields) c.columns.row c.column.result.now c.in-Some.field.now c.in_ok-value.value c.columns.invariant c.in_ok-value.ensures.value in
    rw (next_column columns i c.column.result.now c.column.ensures, next_field fields i c.in-Some.field.now (sym c.in-Some.ensures.value), c.in-Ok-push.ensures.pushed) cells
