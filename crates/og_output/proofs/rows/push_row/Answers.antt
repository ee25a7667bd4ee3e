use Rattle.std.proofs.Common.{◌++◌, ◌∙◌, ap, append_assoc}
use Rattle.std.specs.Option.{option_map}
use Rattle.std.proofs.lemmas.Option.{slice_get-map}
use Rattle.csv.specs.Writing.{default_writer, field_text, next_sep}
use Rattle.og_value.specs.Cells.{fixed_text}
use Rattle.og_value.specs.Values.{row_at, value_at}
use Rattle.og_output.proofs.FieldLemmas.{field_more}
use Rattle.og_output.proofs.rows.push_row.Goals as goal

pub values-preserved : goal.values-preserved
values-preserved c =
    let d = c.args.day in
    let value = value_at c.value.result.now d in
    let field = field_text default_writer (fixed_text value) in
    let placed = slice_get-map (λ v. value_at v d) c.args.row.now c.values.i ∙ ap (option_map (λ v. value_at v d)) c.value.ensures in
    let both = c.in_ok-push_value.ensures ∙ ap (λ t. t ++ field) c.in_ok-push_separator.ensures ∙ append_assoc c.values.out.items (next_sep default_writer c.values.i) field in
    field_more fixed_text (row_at c.args.row.now d) c.values.i value c.args.out.now.items c.values.out.items c.push_value.new.out.items placed c.values.invariant both
