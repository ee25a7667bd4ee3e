use Rattle.std.proofs.Common.{◌∙◌, sym, ap, take}
use Rattle.std.proofs.lemmas.Result.{IfOk-weaker}
use Rattle.csv.specs.Records.{fields_of}
use Rattle.og_file.specs.SavedFile.{mark}
use Rattle.og_file.proofs.GoodRecordLemmas.{no_columns_told, no_mark_two}
use Rattle.og_file.proofs.SavedLemmas.{take_whole}
use Rattle.og_file.proofs.bad_records.schema_two.Goals as goal

pub returns-in_default-clause-none : goal.returns-in_default-clause-none
returns-in_default-clause-none c = λ columns has. (rw c.in_default.is at c.in_ok-first.ensures.none) mark has.1

pub returns-then-not-is_mark-clause-none : goal.returns-then-not-is_mark-clause-none
returns-then-not-is_mark-clause-none c =
    let at = rw c.in-Some.is at c.in_ok-first.ensures.found in
    no_mark_two c.args.bytes.now (fields_of c.in-Some.first) at (λ same. cc (sym c.if-not-is_mark.true ∙ c.is_mark.ensures.1 same))

pub returns-in-Some-2-clause-none : goal.returns-in-Some-2-clause-none
returns-in-Some-2-clause-none c =
    let fields = fields_of c.in-Some-2.second in
    let whole = ap (λ n. take n fields) c.len.ensures ∙ take_whole fields in
    let at = rw c.in-Some-2.is at c.in_ok-second.ensures.found in
    IfOk-weaker c.schema_of.result _ _ (λ found. no_columns_told c.args.bytes.now fields (take c.len.result fields) found whole at) c.schema_of.ensures.none

pub returns-clause-none : goal.returns-clause-none
returns-clause-none c = λ columns has. (rw c.in-None.is at c.in_ok-second.ensures.none) has.0 has.2
