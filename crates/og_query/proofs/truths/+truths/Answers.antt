use Rattle.std.proofs.Common.{◌≡◌, rules, IfOk, subst, ap, ap₂, not, sym, ◌∙◌}
use Rattle.std.specs.List.{list_all, list_any}
use Rattle.std.proofs.lemmas.List.{take_all}
use Rattle.og_query.specs.Conditions.{truth, compares, relates, is_empty, contains}
use Rattle.og_query.specs.Steady.{is_steady_cond}
use Rattle.og_query.specs.declared.condition.Cond.{the_lemmas}
use Rattle.og_query.proofs.Equations.{truth-And, truth-Or, truth-Not, truth-Compare, truth-Relate, truth-Empty, truth-Contains, is_steady-And, is_steady-Or}
use Rattle.og_query.proofs.TruthLemmas.{one_fails, one_more_passes, one_passes, one_more_fails}
use Rattle.og_query.proofs.truths.+truths.Goals as goal

pub all_hold-returns-then-not-branch : goal.all_hold-returns-then-not-branch
all_hold-returns-then-not-branch t c = λ d.
    sym (ap (list_all (truth d c.args.row.now)) (sym c.as_slice-part-items.ensures) ∙ one_fails (truth d c.args.row.now) _ _ _ _ c.parts-test.true c.part-item.is (c.in_ok-holds.ensures d) c.if-not-branch.true)

pub all_hold-parts-preserved : goal.all_hold-parts-preserved
all_hold-parts-preserved t c = λ d. one_more_passes (truth d c.args.row.now) _ _ _ _ c.parts-test.true c.part-item.is (c.in_ok-holds.ensures d) (c.parts.invariant d) c.if-not-branch.false

pub all_hold-returns : goal.all_hold-returns
all_hold-returns t c = λ d. sym (c.parts.invariant d) ∙ ap (list_all (truth d c.args.row.now)) (take_all _ _ c.parts-test.false ∙ c.as_slice-part-items.ensures)

pub any_holds-returns-then-branch : goal.any_holds-returns-then-branch
any_holds-returns-then-branch t c = λ d.
    sym (ap (list_any (truth d c.args.row.now)) (sym c.as_slice-part-items.ensures) ∙ one_passes (truth d c.args.row.now) _ _ _ _ c.parts-test.true c.part-item.is (c.in_ok-holds.ensures d) c.if-branch.true)

pub any_holds-parts-preserved : goal.any_holds-parts-preserved
any_holds-parts-preserved t c = λ d. one_more_fails (truth d c.args.row.now) _ _ _ _ c.parts-test.true c.part-item.is (c.in_ok-holds.ensures d) (c.parts.invariant d) c.if-branch.false

pub any_holds-returns : goal.any_holds-returns
any_holds-returns t c = λ d. sym (c.parts.invariant d) ∙ ap (list_any (truth d c.args.row.now)) (take_all _ _ c.parts-test.false ∙ c.as_slice-part-items.ensures)

pub holds-all_hold-requires : goal.holds-all_hold-requires
holds-all_hold-requires t c = (search (rules, the_lemmas), sym (is_steady-And c.in-And.parts) ∙ ap is_steady_cond (sym c.in-And.is) ∙ c.requires.steady)

pub holds-any_holds-requires : goal.holds-any_holds-requires
holds-any_holds-requires t c = (search (rules, the_lemmas), sym (is_steady-Or c.in-Or.parts) ∙ ap is_steady_cond (sym c.in-Or.is) ∙ c.requires.steady)

pub holds-returns-in-And : goal.holds-returns-in-And
holds-returns-in-And t c = λ d.
    subst (λ truth. IfOk c.all_hold.result (λ b. b ≡ truth)) (sym (truth-And d c.args.row.now c.in-And.parts) ∙ ap (truth d c.args.row.now) (sym c.in-And.is)) (c.all_hold.ensures d)

pub holds-returns-in-Or : goal.holds-returns-in-Or
holds-returns-in-Or t c = λ d.
    subst (λ truth. IfOk c.any_holds.result (λ b. b ≡ truth)) (sym (truth-Or d c.args.row.now c.in-Or.parts) ∙ ap (truth d c.args.row.now) (sym c.in-Or.is)) (c.any_holds.ensures d)

pub holds-returns-in_ok-holds-in-Not : goal.holds-returns-in_ok-holds-in-Not
holds-returns-in_ok-holds-in-Not t c = λ d.
    ap not (c.in_ok-holds-in-Not.ensures d ∙ ap (truth d c.args.row.now) c.get.ensures) ∙ sym (truth-Not d c.args.row.now c.in-Not.part) ∙ ap (truth d c.args.row.now) (sym c.in-Not.is)

pub holds-returns-in_ok-right-in-Compare : goal.holds-returns-in_ok-right-in-Compare
holds-returns-in_ok-right-in-Compare t c = λ d.
    c.compares.ensures ∙ ap₂ (compares c.in-Compare.op) (c.in_ok-left-in-Compare.ensures d) (c.in_ok-right-in-Compare.ensures d)
    ∙ sym (truth-Compare d c.args.row.now c.in-Compare.op c.in-Compare.left c.in-Compare.right) ∙ ap (truth d c.args.row.now) (sym c.in-Compare.is)

pub holds-returns-in_ok-right-in-Relate : goal.holds-returns-in_ok-right-in-Relate
holds-returns-in_ok-right-in-Relate t c = λ d.
    c.relates.ensures ∙ ap₂ (relates c.in-Relate.pred) (c.in_ok-left-in-Relate.ensures d) (c.in_ok-right-in-Relate.ensures d)
    ∙ sym (truth-Relate d c.args.row.now c.in-Relate.pred c.in-Relate.left c.in-Relate.right) ∙ ap (truth d c.args.row.now) (sym c.in-Relate.is)

pub holds-returns-in_ok-value-in-Empty : goal.holds-returns-in_ok-value-in-Empty
holds-returns-in_ok-value-in-Empty t c = λ d.
    c.is_empty.ensures ∙ ap is_empty (c.in_ok-value-in-Empty.ensures d) ∙ sym (truth-Empty d c.args.row.now c.in-Empty.period) ∙ ap (truth d c.args.row.now) (sym c.in-Empty.is)

pub holds-returns-in_ok-day-in-Contains : goal.holds-returns-in_ok-day-in-Contains
holds-returns-in_ok-day-in-Contains t c = λ d.
    c.contains.ensures ∙ ap₂ contains (c.in_ok-period-in-Contains.ensures d) (c.in_ok-day-in-Contains.ensures d)
    ∙ sym (truth-Contains d c.args.row.now c.in-Contains.period c.in-Contains.day) ∙ ap (truth d c.args.row.now) (sym c.in-Contains.is)
