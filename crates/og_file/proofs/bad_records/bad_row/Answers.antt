use Rattle.std.proofs.Common.{◌∙◌, sym}
use Rattle.csv.specs.Records.{fields_of}
use Rattle.og_file.proofs.GoodRecordLemmas.{good_row}
use Rattle.og_file.proofs.bad_records.bad_row.Goals as goal

pub returns-in-None-clause-none : goal.returns-in-None-clause-none
returns-in-None-clause-none c =
    let row = rw c.in-None.is at c.in_ok-column.ensures.none in
    good_row c.args.schema.now (fields_of c.args.fields.now) row.0 (sym c.len.ensures ∙ c.if-len.false ∙ c.len-2.ensures) row.1
