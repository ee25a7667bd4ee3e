use Rattle.std.proofs.Common.{◌∙◌, ap, map, sym}
use Rattle.std.proofs.lemmas.Result.{err_from_is_err_and}
use Rattle.og_check.specs.Expressions.{expr_of}
use Rattle.og_check.specs.Fronts.{parted}
use Rattle.og_check.specs.Steps.{in_order}
use Rattle.og_check.proofs.StepLemmas.{pair_next, pair_stop, pair_done}
use Rattle.og_check.proofs.expressions.+expressions.Goals as goal

pub args_of-returns : goal.args_of-returns
args_of-returns t c =
    let f = expr_of c.args.sight.now in
    ap (λ zs. parted (in_order (map f zs))) (sym c.as_slice-arg-items.ensures) ∙ sym c.each.invariant ∙ pair_done f _ _ _ _ c.each-test.false

pub args_of-returns-in_err-expr : goal.args_of-returns-in_err-expr
args_of-returns-in_err-expr t c =
    let f = expr_of c.args.sight.now in
    let q = err_from_is_err_and c.from_residual.result c.from_residual.ensures.1 in
    rw (q.1, q.2)
    (λ k.
    ap (λ zs. parted (in_order (map f zs))) (sym c.as_slice-arg-items.ensures) ∙ sym c.each.invariant
    ∙ pair_stop f _ _ _ c.each.arg-index c.arg-item.result _ c.each-test.true c.arg-item.is (c.in_err-expr.ensures k))

pub args_of-each-preserved : goal.args_of-each-preserved
args_of-each-preserved t c =
    rw (c.in_ok-push.ensures.ok, c.in_ok-push-2.ensures.ok)
    (pair_next (expr_of c.args.sight.now) c.each.exprs c.each.kinds _ c.each.arg-index c.arg-item.result (c.in_ok-expr.expr, c.in_ok-expr.kind) c.each-test.true c.arg-item.is c.in_ok-expr.ensures ∙ c.each.invariant)
