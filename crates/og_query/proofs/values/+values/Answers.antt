use Rattle.std.proofs.Common.{rules, ap, map, ◌∙◌}
use Rattle.std.proofs.lemmas.List.{take_all}
use Rattle.og_query.specs.Expressions.{meaning}
use Rattle.og_query.specs.declared.expression.Expr.{the_lemmas}
use Rattle.og_query.proofs.ValueLemmas.{steady_arguments, call_of_values, mapped_more}
use Rattle.og_query.proofs.values.+values.Goals as goal

pub value-returns-in_ok-values-in-Call : goal.value-returns-in_ok-values-in-Call
value-returns-in_ok-values-in-Call t c = λ d.
    c.call.ensures ∙ call_of_values d _ _ c.in-Call.func c.in-Call.args _ c.in-Call.is (c.as_slice.ensures.value ∙ c.in_ok-values-in-Call.ensures d)

pub values_of-all-preserved : goal.values_of-all-preserved
values_of-all-preserved t c = λ d.
    mapped_more (meaning d c.args.row.now) _ c.all.expr-index _ _ _ _ c.all-test.true c.expr-item.is (c.in_ok-value.ensures d) (c.all.invariant d) c.in_ok-push.ensures.items

pub values_of-returns : goal.values_of-returns
values_of-returns t c = λ d. c.all.invariant d ∙ ap (map (meaning d c.args.row.now)) (take_all _ _ c.all-test.false ∙ c.as_slice-expr-items.ensures)

pub value-values_of-requires : goal.value-values_of-requires
value-values_of-requires t c = (search (rules, the_lemmas), steady_arguments c.args.expr.now c.in-Call.func c.in-Call.args c.in-Call.is c.requires.steady)
