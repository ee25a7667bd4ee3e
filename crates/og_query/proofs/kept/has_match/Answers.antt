use Rattle.std.proofs.Common.{◌++◌, ap, sym, ◌∙◌}
use Rattle.std.specs.List.{list_any}
use Rattle.std.proofs.lemmas.List.{take_all}
use Rattle.og_query.specs.Conditions.{truth}
use Rattle.og_query.proofs.TruthLemmas.{one_passes, one_more_fails}
use Rattle.og_query.proofs.kept.has_match.Goals as goal

pub returns-then-branch : goal.returns-then-branch
returns-then-branch c = λ d.
    sym
    (ap (list_any (λ other. truth d (c.args.row.now ++ other) c.args.semi.now.cond)) (sym c.rows_named-other-items.ensures)
    ∙ one_passes (λ other. truth d (c.args.row.now ++ other) c.args.semi.now.cond) _ _ _ _ c.others-test.true c.other-item.is (c.in_ok-holds.ensures d ∙ ap (λ both. truth d both c.args.semi.now.cond) c.in_ok-both.ensures) c.if-branch.true)

pub others-preserved : goal.others-preserved
others-preserved c = λ d.
    one_more_fails (λ other. truth d (c.args.row.now ++ other) c.args.semi.now.cond) _ _ _ _ c.others-test.true c.other-item.is (c.in_ok-holds.ensures d ∙ ap (λ both. truth d both c.args.semi.now.cond) c.in_ok-both.ensures)
    (c.others.invariant d) c.if-branch.false

pub returns : goal.returns
returns c = λ d. sym (c.others.invariant d) ∙ ap (list_any (λ other. truth d (c.args.row.now ++ other) c.args.semi.now.cond)) (take_all _ _ c.others-test.false ∙ c.rows_named-other-items.ensures)
