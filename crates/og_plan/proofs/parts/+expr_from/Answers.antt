use Rattle.std.proofs.Common.{map, ap, sym, ◌∙◌}
use Rattle.og_query.specs.declared.expression.Expr.TheVariants.{Column, Lit, Call}
use Rattle.og_query.proofs.Equations.{fold-Column, fold-Lit, fold-Call}
use Rattle.og_plan.specs.Parts.{expr_from_step, expr_from}
use Rattle.og_plan.proofs.LoopLemmas.{mapped_more, all_walked}
use Rattle.og_plan.proofs.parts.+expr_from.Goals as goal

pub expr_from-returns-in-Column : goal.expr_from-returns-in-Column
expr_from-returns-in-Column t c =
    ap Column c.saturating_sub.ensures ∙ sym (ap (expr_from c.args.start) c.in-Column.is ∙ fold-Column (expr_from_step c.args.start) c.in-Column.place)

pub expr_from-returns-in_ok-copy-in-Lit : goal.expr_from-returns-in_ok-copy-in-Lit
expr_from-returns-in_ok-copy-in-Lit t c =
    ap Lit c.in_ok-copy-in-Lit.ensures ∙ sym (ap (expr_from c.args.start) c.in-Lit.is ∙ fold-Lit (expr_from_step c.args.start) c.in-Lit.value)

pub expr_from-returns-in_ok-exprs_from-in-Call : goal.expr_from-returns-in_ok-exprs_from-in-Call
expr_from-returns-in_ok-exprs_from-in-Call t c =
    ap (Call c.in-Call.func) c.in_ok-exprs_from-in-Call.ensures ∙ sym (ap (expr_from c.args.start) c.in-Call.is ∙ fold-Call (expr_from_step c.args.start) c.in-Call.func c.in-Call.args)

pub exprs_from-all-preserved : goal.exprs_from-all-preserved
exprs_from-all-preserved t c =
    mapped_more (expr_from c.args.start) c.as_slice-expr-items.result.now c.all.expr-index c.expr-item.result c.in_ok-expr_from.field-0 c.all.moved _ c.all-test.true c.all.invariant
    (c.in_ok-expr_from.ensures ∙ ap (expr_from c.args.start) c.expr-item.is) c.in_ok-push.ensures.ok

pub exprs_from-returns : goal.exprs_from-returns
exprs_from-returns t c = all_walked (map (expr_from c.args.start)) _ _ c.all.expr-index _ c.as_slice-expr-items.ensures c.all-test.false c.all.invariant
