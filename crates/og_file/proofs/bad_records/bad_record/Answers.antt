use Rattle.std.proofs.lemmas.Result.{IfOk-weaker}
use Rattle.csv.specs.Records.{fields_of}
use Rattle.og_file.proofs.GoodRecordLemmas.{good_record}
use Rattle.og_file.proofs.bad_records.bad_record.Goals as goal

pub returns-in-Some-clause-none : goal.returns-in-Some-clause-none
returns-in-Some-clause-none c =
    let at = rw c.in-Some.is at c.in_ok-fields.ensures.found in
    IfOk-weaker c.bad_row.result _ _ (λ told. good_record c.args.schema.now c.args.bytes.now c.args.number (fields_of c.in-Some.fields) told at) c.bad_row.ensures.none

pub returns-in-None-clause-none : goal.returns-in-None-clause-none
returns-in-None-clause-none c = λ bad is. (rw c.in-None.is at c.in_ok-fields.ensures.none) is.0 is.1
