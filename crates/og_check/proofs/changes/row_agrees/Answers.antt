use Rattle.std.proofs.Common.{◌∙◌, ap, sym, arith}
use Rattle.std.proofs.lemmas.Result.{err_from_is_err_and}
use Rattle.og_value.specs.Cells.{kind_of}
use Rattle.og_check.specs.Steps.{same_kind}
use Rattle.og_check.proofs.Parts.{kind}
use Rattle.og_check.proofs.StepLemmas.{count_next, count_stop, pair_kinds_next, pair_kinds_stop, pair_kinds_done}
use Rattle.og_check.proofs.changes.row_agrees.Goals as goal

pub values-init : goal.values-init
values-init c = sym (count_next kind_of kind c.args.row.now c.args.columns.now _ _ c.len.ensures c.len-2.ensures c.in_ok-same_count.ensures.fault)

pub returns : goal.returns
returns c = sym c.values.invariant ∙ pair_kinds_done kind_of kind c.args.row.now _ c.values.i (omega arith)

pub returns-in_err-same_count : goal.returns-in_err-same_count
returns-in_err-same_count c =
    let q = err_from_is_err_and c.from_residual.result c.from_residual.ensures.1 in
    rw (q.1, q.2) (λ k. count_stop kind_of kind c.args.row.now c.args.columns.now _ _ _ c.len.ensures c.len-2.ensures (c.in_err-same_count.ensures.fault k))

pub returns-in_err-same_kind : goal.returns-in_err-same_kind
returns-in_err-same_kind c =
    let q = err_from_is_err_and c.from_residual-in_err-same_kind.result c.from_residual-in_err-same_kind.ensures.1 in
    rw (q.1, q.2) (λ k. sym c.values.invariant ∙ pair_kinds_stop kind_of kind c.args.row.now c.args.columns.now c.values.i c.value.result.now c.column.result.now _ c.value.ensures c.column.ensures (ap (λ z. same_kind z c.column.result.now.kind) (sym c.kind_of.ensures) ∙ c.in_err-same_kind.ensures k))

pub values-preserved : goal.values-preserved
values-preserved c = pair_kinds_next kind_of kind c.args.row.now c.args.columns.now c.values.i c.value.result.now c.column.result.now c.value.ensures c.column.ensures (ap (λ z. same_kind z c.column.result.now.kind) (sym c.kind_of.ensures) ∙ c.in_ok-same_kind.ensures) ∙ c.values.invariant
