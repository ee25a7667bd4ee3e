use Rattle.std.proofs.Common.{rules, ◌∙◌, sym, take}
use Rattle.csv.specs.Records.{fields_of}
use Rattle.og_file.proofs.CellLemmas.{next_column, next_field}
use Rattle.og_file.proofs.NameLemmas.{next_name, name_at, no_name}
use Rattle.og_file.proofs.names.has_names.Goals as goal

pub returns-in_default : goal.returns-in_default
returns-in_default c = (
  λ e. cc e,
  λ has. absurd (no_name c.args.schema.now (fields_of c.args.fields.now) c.columns.i has (search rules) (sym c.in_default.ensures.value)),
)

pub returns-then-not-is_name : goal.returns-then-not-is_name
returns-then-not-is_name c = (
  λ e. cc e,
  λ has. sym c.if-not-is_name.true
      ∙ c.is_name.ensures.1 (name_at c.args.schema.now (fields_of c.args.fields.now) c.columns.i c.column.result.now c.in-Some.field.now has c.column.ensures (sym c.in-Some.ensures.value)),
)

pub columns-preserved : goal.columns-preserved
columns-preserved c =
    let i = c.columns.i in
    let columns = c.args.schema.now in
    let fields = fields_of c.args.fields.now in
    let names = next_name (take i columns) (take i fields) c.column.result.now c.in-Some.field.now c.columns.invariant (c.is_name.ensures.0 c.if-not-is_name.false) in
    rw (next_column columns i c.column.result.now c.column.ensures, next_field fields i c.in-Some.field.now (sym c.in-Some.ensures.value)) names
