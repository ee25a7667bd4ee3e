use Rattle.std.proofs.Common.{◌++◌, ◌∙◌, [], ap, sym, map, take}
use Rattle.csv.specs.Writing.{default_writer, row_text}
use Rattle.og_value.specs.Cells.{fixed_text}
use Rattle.og_value.specs.Values.{row_at}
use Rattle.og_output.specs.Records.{records}
use Rattle.og_output.proofs.RecordLemmas.{records-more}
use Rattle.og_output.proofs.rows.rows_text.Goals as goal

pub rows-init : goal.rows-init
unfolding records
rows-init c = c.new-text.ensures.items

pub rows-preserved : goal.rows-preserved
rows-preserved c =
    let seen = row_at c.parts-day.result.0.now c.parts-day.result.1 in
    let before = records (map (map fixed_text) (take c.rows.row-index c.args.rows.now)) in
    let more = records-more [] (map fixed_text) c.args.rows.now c.rows.row-index c.row-item.result c.rows-test.true in
    c.in_ok-push_row.ensures ∙ ap (λ t. t ++ row_text default_writer (map fixed_text seen)) c.rows.invariant
    ∙ ap (λ row. before ++ row_text default_writer (map fixed_text row)) (c.parts-day.ensures ∙ c.row-item.is) ∙ sym more
