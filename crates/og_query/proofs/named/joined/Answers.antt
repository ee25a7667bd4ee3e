use Rattle.std.proofs.Common.{◌+◌, ◌++◌, ◌∙◌, sym, ap, ap₂, get_or, [], slice_index_or, arith}
use Rattle.og_query.specs.Tables.{rows_of, tables_in}
use Rattle.og_query.proofs.NamedLemmas.{row_more}
use Rattle.og_query.proofs.named.joined.Goals as goal

pub from-preserved : goal.from-preserved
from-preserved c =
    c.in_ok-append_at.ensures
    ∙ ap₂ (λ front rows. front ++ slice_index_or rows (get_or c.args.places.now c.from.i 0) []) c.from.invariant c.rows_named-rows.ensures
    ∙ sym (row_more (λ table. rows_of c.args.names.now (tables_in c.args.tables.now) table.name) c.args.from.now c.args.places.now c.from.i (c.from.i + 1)
    (get_or c.args.from.now c.from.i c.index-from-i.result) (omega arith) c.from-test.true (omega (arith, c.from-test.true, c.requires)) (ap (λ d. get_or c.args.from.now c.from.i d) c.index-from-i.is))
