use Rattle.std.proofs.lemmas.Result.{on_ok_weaker}
use Rattle.og_file.specs.Writing.{row_record}
use Rattle.og_file.proofs.WriteLemmas.{field_more, record_ended}
use Rattle.og_file.proofs.write.write_row.Goals as goal

pub returns-clause-text : goal.returns-clause-text
returns-clause-text c =
    let e = c.write_field.ensures in
    let more = rw (c.in_ok-write_field.was, c.as_slice.ensures.value, c.in-Ok.ensures) at (field_more c.write_field.result c.write_cells.new.writer c.write_field.new.self c.as_slice.result.now e.text e.same e.count e.wrote) in
    let g = c.end_record.ensures in
    let ended = record_ended c.end_record.result c.write_field.new.self c.end_record.new.self (row_record (c.args.row.now, c.args.days.now)) g.bytes g.fields g.wrote g.same in
    on_ok_weaker c.end_record.result (λ end text had. end text (more text _ (c.in_ok-write_cells.ensures.text text had))) ended
