use Rattle.std.proofs.Common.{◌+◌, ◌∙◌, ℕ, ap, drop, sym, arith}
use Rattle.std.specs.Cmp.Lexicographic.{slice_cmp}
use Rattle.std.specs.Ordering.{ordering_then}
use Rattle.og_value.proofs.SightLemmas.{at_end, days_order, decides, defers, from_place, rows_compared}
use Rattle.og_value.proofs.sight.compared.Goals as goal

pub columns-init : goal.columns-init
columns-init c = rows_compared c.args.left_day c.args.right_day c.args.left.now c.args.right.now

pub returns-then-ne : goal.returns-then-ne
returns-then-ne c =
    let R = days_order c.args.left_day c.args.right_day in
    let next : ℕ = c.columns.i + 1 in
    let rest = slice_cmp R (drop next c.args.left.now) (drop next c.args.right.now) in
    let here = from_place R c.args.left.now c.args.right.now c.columns.i _ _
    (omega (arith, c.columns-test.true, c.min-i-end.ensures)) (omega (arith, c.columns-test.true, c.min-i-end.ensures)) c.index-left-i.is c.index-right-i.is in
    sym (decides c.values_compared-order.result rest (sym c.ne.ensures ∙ c.if-ne.true)) ∙ ap (λ o. ordering_then o rest) c.values_compared-order.ensures
    ∙ sym here ∙ c.columns.invariant

pub columns-preserved : goal.columns-preserved
columns-preserved c =
    let R = days_order c.args.left_day c.args.right_day in
    let next : ℕ = c.columns.i + 1 in
    let rest = slice_cmp R (drop next c.args.left.now) (drop next c.args.right.now) in
    let here = from_place R c.args.left.now c.args.right.now c.columns.i _ _
    (omega (arith, c.columns-test.true, c.min-i-end.ensures)) (omega (arith, c.columns-test.true, c.min-i-end.ensures)) c.index-left-i.is c.index-right-i.is in
    sym (defers c.values_compared-order.result rest (sym c.ne.ensures ∙ c.if-ne.false)) ∙ ap (λ o. ordering_then o rest) c.values_compared-order.ensures
    ∙ sym here ∙ c.columns.invariant

pub returns : goal.returns
returns c =
    c.cmp.ensures
    ∙ sym
    (at_end (days_order c.args.left_day c.args.right_day) c.args.left.now c.args.right.now c.columns.i
    (omega (arith, c.columns-test.false, c.columns.auto.i-end, c.min-i-end.ensures)))
    ∙ c.columns.invariant
