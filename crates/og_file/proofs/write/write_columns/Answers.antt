use Rattle.std.proofs.Common.{map, sym, subst, rules}
use Rattle.std.proofs.lemmas.List.Elements.{All-nil}
use Rattle.std.proofs.lemmas.Result.{on_ok_weaker}
use Rattle.og_value.specs.Words.{IsLowerWord}
use Rattle.og_file.specs.Writers.{HasFields}
use Rattle.og_file.specs.Writing.{column_text}
use Rattle.og_file.proofs.WriteLemmas.{all_next, all_of, field_more, fields_all, fields_next, no_field_yet, record_ended}
use Rattle.og_file.proofs.write.write_columns.Goals as goal

pub columns-init : goal.columns-init
columns-init c = (no_field_yet c.args.writer.now, All-nil (λ c. IsLowerWord c.name))

pub columns-preserved : goal.columns-preserved
columns-preserved c =
    let e = c.write_field.ensures in
    let more = field_more c.write_field.result c.columns.writer c.write_field.new.self c.as_slice.result.now e.text e.same e.count e.wrote in
    let next = fields_next column_text c.args.schema.now c.columns.i c.column.result.now c.column.ensures in (
      λ text had.
          subst (HasFields c.write_field.new.self text) (sym next) (rw (c.in_ok-write_field.was, c.as_slice.ensures.value, c.in-Ok.ensures.text) at more text _ (c.columns.invariant.0 text had)),
      all_next (λ c. IsLowerWord c.name) c.args.schema.now c.columns.i c.column.result.now c.column.ensures c.columns.invariant.1 c.put_column.ensures.word,
    )

pub returns-clause-text : goal.returns-clause-text
returns-clause-text c =
    let e = c.end_record.ensures in
    let ended = record_ended c.end_record.result c.columns.writer c.end_record.new.self (map column_text c.args.schema.now) e.bytes e.fields e.wrote e.same in
    let all = fields_all column_text c.args.schema.now c.columns.i (search rules) in
    on_ok_weaker c.end_record.result (λ more text had. more text (rw all at (c.columns.invariant.0 text had))) ended

pub returns-clause-words : goal.returns-clause-words
returns-clause-words c =
    let all = all_of (λ c. IsLowerWord c.name) c.args.schema.now c.columns.i (search rules) c.columns.invariant.1 in
    on_ok_weaker c.end_record.result (λ _. all) c.end_record.ensures.fields
