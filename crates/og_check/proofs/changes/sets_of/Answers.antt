use Rattle.std.proofs.Common.{◌∙◌, sym, ap}
use Rattle.std.proofs.lemmas.Result.{err_from_is_err_and}
use Rattle.og_check.specs.Statements.{with_set}
use Rattle.og_check.specs.Steps.{in_turn}
use Rattle.og_check.proofs.StepLemmas.{turn_next, turn_stop, turn_done}
use Rattle.og_check.proofs.changes.sets_of.Goals as goal

pub each-init : goal.each-init
each-init c = ap (λ before. in_turn (with_set c.args.sight.now) before c.args.sets.now) c.new-typed.ensures

pub returns : goal.returns
returns c = sym c.each.invariant ∙ turn_done (with_set c.args.sight.now) c.each.typed _ c.each.set-index c.each-test.false

pub returns-in_err-add_set : goal.returns-in_err-add_set
returns-in_err-add_set c =
    let q = err_from_is_err_and c.from_residual.result c.from_residual.ensures.1 in
    rw (q.1, q.2)
    (λ k. sym c.each.invariant ∙ turn_stop (with_set c.args.sight.now) c.each.typed _ c.each.set-index c.set-item.result _ c.each-test.true c.set-item.is (c.in_err-add_set.ensures k))

pub each-preserved : goal.each-preserved
each-preserved c = turn_next (with_set c.args.sight.now) c.each.typed _ c.each.set-index c.set-item.result _ c.each-test.true c.set-item.is c.in_ok-add_set.ensures ∙ c.each.invariant
