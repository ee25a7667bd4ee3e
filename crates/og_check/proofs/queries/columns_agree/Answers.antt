use Rattle.std.proofs.Common.{◌∙◌, sym, arith}
use Rattle.std.proofs.lemmas.Result.{err_from_is_err_and}
use Rattle.og_check.proofs.Parts.{kind}
use Rattle.og_check.proofs.StepLemmas.{count_next, count_stop, pair_kinds_next, pair_kinds_stop, pair_kinds_done}
use Rattle.og_check.proofs.queries.columns_agree.Goals as goal

pub columns-init : goal.columns-init
columns-init c = sym (count_next kind kind c.args.found.now c.args.wanted.now _ _ c.len.ensures c.len-2.ensures c.in_ok-same_count.ensures.fault)

pub returns : goal.returns
returns c = sym c.columns.invariant ∙ pair_kinds_done kind kind c.args.found.now _ c.columns.i (omega arith)

pub returns-in_err-same_count : goal.returns-in_err-same_count
returns-in_err-same_count c =
    let q = err_from_is_err_and c.from_residual.result c.from_residual.ensures.1 in
    rw (q.1, q.2) (λ k. count_stop kind kind c.args.found.now c.args.wanted.now _ _ _ c.len.ensures c.len-2.ensures (c.in_err-same_count.ensures.fault k))

pub returns-in_err-same_kind : goal.returns-in_err-same_kind
returns-in_err-same_kind c =
    let q = err_from_is_err_and c.from_residual-in_err-same_kind.result c.from_residual-in_err-same_kind.ensures.1 in
    rw (q.1, q.2) (λ k. sym c.columns.invariant ∙ pair_kinds_stop kind kind c.args.found.now c.args.wanted.now c.columns.i c.column.result.now c.column-in-columns.result.now _ c.column.ensures c.column-in-columns.ensures (c.in_err-same_kind.ensures k))

pub columns-preserved : goal.columns-preserved
columns-preserved c = pair_kinds_next kind kind c.args.found.now c.args.wanted.now c.columns.i c.column.result.now c.column-in-columns.result.now c.column.ensures c.column-in-columns.ensures c.in_ok-same_kind.ensures ∙ c.columns.invariant
