use Rattle.std.proofs.Common.{◌∙◌, ◌∷◌, [], ap, sym, subst, map, true}
use Rattle.std.proofs.lemmas.Result.{IfOk-weaker}
use Rattle.csv.specs.Writing.{with_flexible}
use Rattle.csv.proofs.RoundTrip.{rows_text}
use Rattle.og_file.specs.SavedFile.{mark}
use Rattle.og_file.specs.Writers.{HasText}
use Rattle.og_file.specs.Writing.{column_text, records_of, row_record}
use Rattle.og_file.proofs.WriteLemmas.{new_writer, record_written, rows_push}
use Rattle.og_file.proofs.write.saved_records.Goals as goal

pub returns-clause-text : goal.returns-clause-text
returns-clause-text g c =
    let from = c.from_writer-writer.ensures in
    let start = new_writer c.from_writer-writer.result c.new-2.result c.new-2.ensures.items from.wtr from.empty (from.cfg ∙ c.flexible.ensures ∙ ap (λ b. with_flexible b true) c.new.ensures) from.fields from.wrote in
    let e = c.write_fields.ensures in
    let written = rw c.in_ok-write_fields.was at (record_written c.write_fields.result c.from_writer-writer.result c.write_fields.new.self mark e.bytes e.ended e.clean e.setup) in
    let header = map column_text c.args.schema.now in
    let rows = map row_record c.args.rel.now in
    let marked = subst (HasText c.write_fields.new.self) (sym (rows_push [] mark)) (written (rows_text []) start) in
    let headed = subst (HasText c.write_columns.new.writer) (sym (rows_push (mark ∷ []) header)) (c.in_ok-write_columns.ensures.text (rows_text (mark ∷ [])) marked) in
    let rowed = c.in_ok-write_rows.ensures.text (mark ∷ header ∷ []) headed in
    let counted = rw c.len.ensures at (c.in_ok-write_count.ensures (rows_text (mark ∷ header ∷ rows)) rowed) in
    let all = subst (HasText c.write_count.new.writer) (sym (rows_push (mark ∷ header ∷ rows) _)) counted in
    IfOk-weaker c.text_of.result _ _ (λ v e. e (rows_text (records_of c.args.schema.now c.args.rel.now)) all) c.text_of.ensures
