use Rattle.std.proofs.Common.{◌∙◌, ap, map, sym}
use Rattle.std.proofs.lemmas.Result.{err_from_is_err_and}
use Rattle.og_check.specs.Expressions.{cond_of}
use Rattle.og_check.specs.Steps.{in_order}
use Rattle.og_check.proofs.StepLemmas.{front-nil, each_next, each_stop, each_done}
use Rattle.og_check.proofs.conditions.+conditions.Goals as goal

pub parts_of-each-init : goal.parts_of-each-init
parts_of-each-init t c = rw c.new-conds.ensures (front-nil _)

pub parts_of-returns : goal.parts_of-returns
parts_of-returns t c =
    let f = cond_of c.args.sight.now in
    ap (λ zs. in_order (map f zs)) (sym c.as_slice-part-items.ensures) ∙ sym c.each.invariant ∙ each_done f _ _ _ c.each-test.false

pub parts_of-returns-in_err-cond_of : goal.parts_of-returns-in_err-cond_of
parts_of-returns-in_err-cond_of t c =
    let f = cond_of c.args.sight.now in
    let q = err_from_is_err_and c.from_residual.result c.from_residual.ensures.1 in
    rw (q.1, q.2)
    (λ k.
    ap (λ zs. in_order (map f zs)) (sym c.as_slice-part-items.ensures) ∙ sym c.each.invariant
    ∙ each_stop f _ _ c.each.part-index c.part-item.result _ c.each-test.true c.part-item.is (c.in_err-cond_of.ensures k))

pub parts_of-each-preserved : goal.parts_of-each-preserved
parts_of-each-preserved t c =
    rw c.in_ok-push.ensures.ok
    (each_next (cond_of c.args.sight.now) c.each.conds _ c.each.part-index c.part-item.result _ c.each-test.true c.part-item.is c.in_ok-cond_of.ensures ∙ c.each.invariant)
