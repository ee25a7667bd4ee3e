use Rattle.std.proofs.Common.{◌∙◌, refl, sym}
use Rattle.csv.specs.Records.{fields_of}
use Rattle.og_file.proofs.CellLemmas.{as_long}
use Rattle.og_file.proofs.table.table_row.Goals as goal

pub returns-then-len-clause-fault : goal.returns-then-len-clause-fault
returns-then-len-clause-fault c = (
  refl,
  λ values are. c.if-len.true (c.len.ensures ∙ as_long c.args.schema.now (fields_of c.args.fields.now) values are ∙ sym c.len-2.ensures),
)
