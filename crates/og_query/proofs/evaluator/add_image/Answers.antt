use Rattle.std.proofs.Common.{map, ap, ◌∙◌}
use Rattle.og_query.specs.Queries.{image, is_kept}
use Rattle.og_query.specs.Tables.{rows_of, tables_in}
use Rattle.og_query.specs.Walk.{row_from}
use Rattle.og_query.proofs.CombinationLemmas.{image_none, image_one}
use Rattle.og_query.proofs.evaluator.add_image.Goals as goal

pub returns-then-not-branch : goal.returns-then-not-branch
returns-then-not-branch c = λ d.
    image_none (is_kept d (rows_of c.args.names.now (tables_in c.args.tables.now)) c.args.core.now) (image d c.args.core.now.items) c.in_ok-row.row _ c.in_ok-is_kept.field-0 _
    (c.in_ok-row.ensures ∙ ap (λ from. row_from (map (λ table. rows_of c.args.names.now (tables_in c.args.tables.now) table.name) from) c.args.places.now) c.as_slice.ensures)
    (c.in_ok-is_kept.ensures d) c.if-not-branch.true

pub returns : goal.returns
returns c = λ d.
    image_one (is_kept d (rows_of c.args.names.now (tables_in c.args.tables.now)) c.args.core.now) (image d c.args.core.now.items) c.in_ok-row.row _ c.in_ok-is_kept.field-0 _ _ _
    (c.in_ok-row.ensures ∙ ap (λ from. row_from (map (λ table. rows_of c.args.names.now (tables_in c.args.tables.now) table.name) from) c.args.places.now) c.as_slice.ensures)
    (c.in_ok-is_kept.ensures d) c.if-not-branch.false (c.of.ensures ∙ c.in_ok-values.ensures d) c.in_ok-push.ensures.items
