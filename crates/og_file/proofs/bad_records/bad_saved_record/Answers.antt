use Rattle.std.proofs.lemmas.Result.{IfOk-weaker}
use Rattle.og_file.proofs.GoodRecordLemmas.{good_told_one, good_told_two, no_header}
use Rattle.og_file.proofs.bad_records.bad_saved_record.Goals as goal

pub returns-in-Some-clause-none : goal.returns-in-Some-clause-none
returns-in-Some-clause-none c =
    let has = rw c.in-Some.is at c.in_ok-schema.ensures.columns in
    IfOk-weaker c.bad_two.result _ _ (λ told. good_told_two c.args.bytes.now c.in-Some.schema c.args.number told has) c.bad_two.ensures.none

pub returns-in-Some-2-clause-none : goal.returns-in-Some-2-clause-none
returns-in-Some-2-clause-none c =
    let has = rw c.in-Some-2.is at c.in_ok-schema-2.ensures.columns in
    IfOk-weaker c.bad_one.result _ _ (λ told. good_told_one c.args.bytes.now c.in-Some-2.schema c.args.number told has) c.bad_one.ensures.none

pub returns-in-None-clause-none : goal.returns-in-None-clause-none
returns-in-None-clause-none c =
    no_header c.args.bytes.now c.args.number (rw c.in-None.is at c.in_ok-schema-2.ensures.none) (rw c.in_default.is at c.in_ok-schema.ensures.none)
