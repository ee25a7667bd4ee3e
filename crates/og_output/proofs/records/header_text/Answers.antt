use Rattle.std.proofs.Common.{◌≡◌, ◌++◌, ◌∙◌, [], ap, sym, refl, map, take, rules}
use Rattle.std.proofs.lemmas.List.{length-map, take_all}
use Rattle.csv.specs.Writing.{default_writer, field_text, next_sep, row_body}
use Rattle.og_output.proofs.FieldLemmas.{field_more}
use Rattle.og_output.proofs.RecordLemmas.{records-one}
use Rattle.og_output.proofs.records.header_text.Goals as goal

pub columns-init : goal.columns-init
columns-init c = c.new-text.ensures.items

pub columns-preserved : goal.columns-preserved
columns-preserved c =
    let field = ap (λ t. c.columns.text.items ++ (next_sep default_writer c.columns.i ++ field_text default_writer t)) c.bytes.ensures in
    field_more (λ column. column.name) c.args.schema.now c.columns.i c.column.result.now [] c.columns.text.items c.push_field.new.out.items c.column.ensures c.columns.invariant (c.in_ok-push_field.ensures ∙ field)

pub returns : goal.returns
returns c =
    let names = map (λ column. column.name) c.args.schema.now in
    let all : take c.columns.i names ≡ names = take_all c.columns.i names (rw (length-map c.args.schema.now (λ column. column.name)) (search rules)) in
    c.in_ok-end_record.ensures [] names refl (c.columns.invariant ∙ ap (row_body default_writer) all) ∙ sym (records-one names)
