use Rattle.std.proofs.Common.{◌∙◌, sym}
use Rattle.std.proofs.lemmas.Result.{err_from_is_err_and}
use Rattle.og_check.proofs.StarLemmas.{items_added, items_stop, items_done}
use Rattle.og_check.proofs.cores.list_of.Goals as goal

pub returns : goal.returns
returns c = sym c.each.invariant ∙ items_done c.args.sight.now c.each.all.exprs c.each.all.columns.items _ c.each.i c.each-test.false

pub returns-in_err-add_item : goal.returns-in_err-add_item
returns-in_err-add_item c =
    let q = err_from_is_err_and c.from_residual.result c.from_residual.ensures.1 in
    rw (q.1, q.2) (λ k. sym c.each.invariant ∙ items_stop c.args.sight.now c.each.all.exprs c.each.all.columns.items _ c.each.i c.index-list-i.result _ c.each-test.true c.index-list-i.is (c.in_err-add_item.ensures k))

pub each-preserved : goal.each-preserved
each-preserved c =
    items_added c.args.sight.now c.each.all.exprs c.each.all.columns.items _ c.each.i c.index-list-i.result _ _ c.each-test.true c.index-list-i.is c.in_ok-add_item.ensures ∙ c.each.invariant
