use Rattle.csv.specs.Records.{fields_of}
use Rattle.og_file.proofs.GoodRecordLemmas.{no_columns_one}
use Rattle.og_file.proofs.bad_records.schema_one.Goals as goal

pub returns-in_default-clause-none : goal.returns-in_default-clause-none
returns-in_default-clause-none c = λ columns has. (rw c.in_default.is at c.in_ok-first.ensures.none) has.0 has.2

pub returns-clause-none : goal.returns-clause-none
returns-clause-none c =
    let at = rw c.in-Some.is at c.in_ok-first.ensures.found in
    no_columns_one c.args.bytes.now (fields_of c.in-Some.first) at (rw c.in-None.is at c.in_ok-schema.ensures.none)
