use Rattle.std.proofs.Common.{map, ap, sym, ◌∙◌}
use Rattle.og_query.specs.declared.condition.Cond.TheVariants.{And, Or, Compare, Relate, Empty, Contains}
use Rattle.og_query.proofs.Equations.{fold-And, fold-Or, fold-Compare, fold-Relate, fold-Empty, fold-Contains}
use Rattle.og_plan.specs.Parts.{cond_from_step, cond_from, expr_from}
use Rattle.og_plan.proofs.LoopLemmas.{mapped_more, all_walked}
use Rattle.og_plan.proofs.parts.+cond_from.Goals as goal

pub cond_from-returns-in_ok-all_from-in-And : goal.cond_from-returns-in_ok-all_from-in-And
cond_from-returns-in_ok-all_from-in-And t c =
    ap And c.in_ok-all_from-in-And.ensures ∙ sym (ap (cond_from c.args.start) c.in-And.is ∙ fold-And (cond_from_step c.args.start) c.in-And.conds)

pub cond_from-returns-in_ok-all_from-in-Or : goal.cond_from-returns-in_ok-all_from-in-Or
cond_from-returns-in_ok-all_from-in-Or t c =
    ap Or c.in_ok-all_from-in-Or.ensures ∙ sym (ap (cond_from c.args.start) c.in-Or.is ∙ fold-Or (cond_from_step c.args.start) c.in-Or.conds)

pub cond_from-returns-in_ok-expr_from-in-Empty : goal.cond_from-returns-in_ok-expr_from-in-Empty
cond_from-returns-in_ok-expr_from-in-Empty t c =
    ap Empty c.in_ok-expr_from-in-Empty.ensures ∙ sym (ap (cond_from c.args.start) c.in-Empty.is ∙ fold-Empty (cond_from_step c.args.start) c.in-Empty.period)

pub cond_from-returns-in_ok-left-in-Compare : goal.cond_from-returns-in_ok-left-in-Compare
cond_from-returns-in_ok-left-in-Compare t c =
    let i = c.in-Compare in
    let made = c.in_ok-left-in-Compare in
    ap (λ left. Compare i.op left made.right) made.ensures.0
    ∙ ap (Compare i.op (expr_from c.args.start i.left)) made.ensures.1
    ∙ sym (ap (cond_from c.args.start) i.is ∙ fold-Compare (cond_from_step c.args.start) i.op i.left i.right)

pub cond_from-returns-in_ok-left-in-Relate : goal.cond_from-returns-in_ok-left-in-Relate
cond_from-returns-in_ok-left-in-Relate t c =
    let i = c.in-Relate in
    let made = c.in_ok-left-in-Relate in
    ap (λ left. Relate i.pred left made.right) made.ensures.0
    ∙ ap (Relate i.pred (expr_from c.args.start i.left)) made.ensures.1
    ∙ sym (ap (cond_from c.args.start) i.is ∙ fold-Relate (cond_from_step c.args.start) i.pred i.left i.right)

pub cond_from-returns-in_ok-period-in-Contains : goal.cond_from-returns-in_ok-period-in-Contains
cond_from-returns-in_ok-period-in-Contains t c =
    let start = c.args.start in
    let made = c.in_ok-period-in-Contains in
    ap (λ period. Contains period made.day) made.ensures.0
    ∙ ap (Contains (expr_from start c.in-Contains.period)) made.ensures.1
    ∙ sym (ap (cond_from start) c.in-Contains.is ∙ fold-Contains (cond_from_step start) c.in-Contains.period c.in-Contains.day)

pub all_from-all-preserved : goal.all_from-all-preserved
all_from-all-preserved t c =
    mapped_more (cond_from c.args.start) c.as_slice-cond-items.result.now c.all.cond-index c.cond-item.result c.in_ok-cond_from.field-0 c.all.moved _ c.all-test.true c.all.invariant
    (c.in_ok-cond_from.ensures ∙ ap (cond_from c.args.start) c.cond-item.is) c.in_ok-push.ensures.ok

pub all_from-returns : goal.all_from-returns
all_from-returns t c = all_walked (map (cond_from c.args.start)) _ _ c.all.cond-index _ c.as_slice-cond-items.ensures c.all-test.false c.all.invariant
