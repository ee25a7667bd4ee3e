use Rattle.std.proofs.Common.{rules, ◌≤◌, Err, ap}
use Rattle.std.proofs.lemmas.Result.{IfOk-weaker}
use Rattle.csv.specs.Records.{fields_of}
use Rattle.og_file.specs.SavedFile.{two}
use Rattle.og_file.proofs.BadRecordLemmas.{bad_end_two, bad_row_two}
use Rattle.og_file.proofs.GoodRecordLemmas.{good_end_told, good_two}
use Rattle.og_file.proofs.bad_records.bad_two.Goals as goal

pub returns-in-Some-end_of-clause-told : goal.returns-in-Some-end_of-clause-told
returns-in-Some-end_of-clause-told c =
    let far : 3 ≤ c.args.number = search rules in
    let at = rw c.in-Some.is at c.in_ok-fields.ensures.found in
    let end = c.in-Some-end_of.ensures.end in
    IfOk-weaker c.bad_end.result _ _ (λ told. bad_end_two c.args.schema.now c.args.bytes.now c.args.number (fields_of c.in-Some.fields) c.in-Some-end_of.field-0 told far at end) c.bad_end.ensures.told

pub returns-in-Err-NotACell-clause-told : goal.returns-in-Err-NotACell-clause-told
returns-in-Err-NotACell-clause-told c =
    let far : 3 ≤ c.args.number = search rules in
    let at = rw c.in-Some.is at c.in_ok-fields.ensures.found in
    let none = c.in-Err-NotACell.ensures.none (ap Err c.in-Err-NotACell.field-0-is) in
    bad_row_two c.args.schema.now c.args.bytes.now c.args.number (fields_of c.in-Some.fields) c.in_ok-bad_saved_row-in-Err-NotACell.field-0 far at
    (λ field count only said. c.in_default-end_of.ensures.none count (field, only, said)) (c.in_ok-bad_saved_row-in-Err-NotACell.ensures two none)

pub returns-in-Some-end_of-clause-none : goal.returns-in-Some-end_of-clause-none
returns-in-Some-end_of-clause-none c =
    let at = rw c.in-Some.is at c.in_ok-fields.ensures.found in
    let end = c.in-Some-end_of.ensures.end in
    IfOk-weaker c.bad_end.result _ _ (λ told. good_end_told c.args.schema.now c.args.bytes.now c.args.number (fields_of c.in-Some.fields) c.in-Some-end_of.field-0 told at end) c.bad_end.ensures.none

pub returns-in-Ok-clause-none : goal.returns-in-Ok-clause-none
returns-in-Ok-clause-none c =
    let at = rw c.in-Some.is at c.in_ok-fields.ensures.found in
    good_two c.args.schema.now c.args.bytes.now c.args.number (fields_of c.in-Some.fields) _ at c.in_default-end_of.ensures.none c.in-Ok.ensures.row
