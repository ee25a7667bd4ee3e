use Rattle.std.proofs.Common.{ℤ, List, fold, take, ap, ap₂, sym, ◌∙◌}
use Rattle.std.proofs.lemmas.List.{take_all}
use Rattle.std.proofs.lemmas.List.Sums.{fold_more}
use Rattle.og_query.specs.Queries.{Fixed, Named, combined, core_rows}
use Rattle.og_query.specs.Tables.{rows_of, tables_in}
use Rattle.og_query.specs.declared.query.Rest.{Rest}
use Rattle.og_query.proofs.evaluator.ordinary.Goals as goal

-- an answer with one more core
abbrev with_core : ℤ → Named → List Fixed → Rest → List Fixed
with_core d rows answer rest = combined rest.op answer (core_rows d rows rest.core)

pub rests-preserved : goal.rests-preserved
rests-preserved c = λ d.
    let rows = rows_of c.args.names.now (tables_in c.args.tables.now) in
    c.in_ok-answer-2.ensures
    ∙ ap₂ (combined c.rest-item.result.op) (c.rests.invariant d) (c.in_ok-rows.ensures d)
    ∙ ap (with_core d rows (fold (with_core d rows) (core_rows d rows c.args.query.now.first) (take c.rests.rest-index c.as_slice-rest-items.result.now))) c.rest-item.is
    ∙ sym (fold_more (with_core d rows) (core_rows d rows c.args.query.now.first) c.as_slice-rest-items.result.now c.rests.rest-index c.rest-item.result c.rests-test.true)

pub returns : goal.returns
returns c = λ d.
    let rows = rows_of c.args.names.now (tables_in c.args.tables.now) in
    c.rests.invariant d ∙ ap (fold (with_core d rows) (core_rows d rows c.args.query.now.first)) (take_all _ _ c.rests-test.false ∙ c.as_slice-rest-items.ensures)
