use Rattle.std.proofs.Common.{rules, ◌≤◌, Err, ap}
use Rattle.csv.specs.Records.{fields_of}
use Rattle.og_file.specs.SavedFile.{one}
use Rattle.og_file.proofs.GoodRecordLemmas.{good_one}
use Rattle.og_file.proofs.bad_records.bad_one.Goals as goal

pub returns-in-Err-NotACell-clause-told : goal.returns-in-Err-NotACell-clause-told
returns-in-Err-NotACell-clause-told c =
    let far : 2 ≤ c.args.number = search rules in
    let at = rw c.in-Some.is at c.in_ok-fields.ensures.found in
    let none = c.in-Err-NotACell.ensures.none (ap Err c.in-Err-NotACell.field-0-is) in
    (far, fields_of c.in-Some.fields, at, c.in_ok-bad_saved_row-in-Err-NotACell.ensures one none)

pub returns-in_default-clause-none : goal.returns-in_default-clause-none
returns-in_default-clause-none c = λ bad is. (rw c.in_default.is at c.in_ok-fields.ensures.none) is.1 is.2

pub returns-in-Ok-clause-none : goal.returns-in-Ok-clause-none
returns-in-Ok-clause-none c =
    let at = rw c.in-Some.is at c.in_ok-fields.ensures.found in
    good_one c.args.schema.now c.args.bytes.now c.args.number (fields_of c.in-Some.fields) _ at c.in-Ok.ensures.row
