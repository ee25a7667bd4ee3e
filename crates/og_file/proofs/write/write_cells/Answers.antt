use Rattle.std.proofs.Common.{sym, subst, rules}
use Rattle.std.proofs.lemmas.List.Elements.{All-nil}
use Rattle.og_value.specs.Cells.{cell_text}
use Rattle.og_file.specs.Writers.{HasFields}
use Rattle.og_file.specs.Writing.{IsReadAgain}
use Rattle.og_file.proofs.WriteLemmas.{all_next, all_of, field_more, fields_all, fields_next, no_field_yet}
use Rattle.og_file.proofs.write.write_cells.Goals as goal

pub values-init : goal.values-init
values-init c = (no_field_yet c.args.writer.now, All-nil IsReadAgain)

pub values-preserved : goal.values-preserved
values-preserved c =
    let e = c.write_field.ensures in
    let more = field_more c.write_field.result c.values.writer c.write_field.new.self c.as_slice.result.now e.text e.same e.count e.wrote in
    let next = fields_next cell_text c.args.row.now c.values.i c.value.result.now c.value.ensures in (
      λ text had.
          subst (HasFields c.write_field.new.self text) (sym next) (rw (c.in_ok-write_field.was, c.as_slice.ensures.value, c.in-Ok.ensures.text) at more text _ (c.values.invariant.0 text had)),
      all_next IsReadAgain c.args.row.now c.values.i c.value.result.now c.value.ensures c.values.invariant.1 c.put_cell.ensures.cell,
    )

pub returns-clause-text : goal.returns-clause-text
returns-clause-text c = λ text had. rw (fields_all cell_text c.args.row.now c.values.i (search rules)) at (c.values.invariant.0 text had)

pub returns-clause-cells : goal.returns-clause-cells
returns-clause-cells c = all_of IsReadAgain c.args.row.now c.values.i (search rules) c.values.invariant.1
