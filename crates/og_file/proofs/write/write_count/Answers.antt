use Rattle.std.proofs.Common.{◌∷◌, []}
use Rattle.std.proofs.lemmas.Result.{on_ok_weaker}
use Rattle.og_file.specs.Writing.{count_text}
use Rattle.og_file.proofs.WriteLemmas.{field_more, no_field_yet, record_ended}
use Rattle.og_file.proofs.write.write_count.Goals as goal

pub returns : goal.returns
returns c =
    let e = c.write_field.ensures in
    let more = rw (c.in_ok-write_field.was, c.as_bytes.ensures.value, c.in-Ok.ensures.ok) at (field_more c.write_field.result c.args.writer.now c.write_field.new.self c.as_bytes.result.now e.text e.same e.count e.wrote) in
    let g = c.end_record.ensures in
    let ended = record_ended c.end_record.result c.write_field.new.self c.end_record.new.self (count_text c.args.count ∷ []) g.bytes g.fields g.wrote g.same in
    on_ok_weaker c.end_record.result (λ end text had. end text (more text [] (no_field_yet c.args.writer.now text had))) ended
