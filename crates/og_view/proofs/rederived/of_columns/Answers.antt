use Rattle.std.proofs.Common.{◌≡◌, Contains, IfSome, Some, ap, slice_get, subst, sym, ◌∙◌}
use Rattle.std.proofs.lemmas.List.Elements.{Contains-get_or}
use Rattle.og_query.specs.Queries.{image}
use Rattle.og_query.specs.declared.expression.Expr.TheVariants as expr
use Rattle.og_reduce.specs.Sieves.{is_among, passes}
use Rattle.og_view.proofs.AgainLemmas.{handed_through}
use Rattle.og_reduce.proofs.SieveLemmas.{passes-one}
use Rattle.og_view.proofs.rederived.of_columns.Goals as goal

pub tests-preserved : goal.tests-preserved
tests-preserved c d row passing =
    let items = c.args.items.now in
    let test = c.test-item.result in
    let tests = c.as_slice-test-items.result.now in
    let all = c.as_slice-test-items.ensures.value ∙ c.sieve.view_is in
    let member : Contains c.args.sieve.now (c.test.inside.column, c.test.inside.keys.now) =
    subst (Contains c.args.sieve.now) (sym c.test.view_is) (subst (λ tests. Contains tests test) all (subst (Contains tests) (sym c.test-item.is) (Contains-get_or tests c.tests.test-index test c.tests-test.true))) in
    c.in_ok-add_test.ensures row (c.tests.invariant d row passing)
    (λ place is.
    ap (is_among c.test.inside.keys.now) (sym (handed_through d row items c.test.inside.column place (subst (λ o. IfSome o (λ place. slice_get items c.test.inside.column ≡ Some (expr.Column place))) is c.column_handed.ensures)))
    ∙ passes-one c.args.sieve.now (image d items row) (c.test.inside.column, c.test.inside.keys.now) member passing)

pub returns : goal.returns
returns c d row passing = ap (λ tests. passes tests row) c.new.ensures ∙ c.tests.invariant d row passing
