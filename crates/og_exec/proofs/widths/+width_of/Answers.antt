use Rattle.std.proofs.Common.{ap, sym, ◌∙◌}
use Rattle.std.proofs.lemmas.Result.{IfOk-weaker}
use Rattle.og_plan.specs.Shapes.{plan_kinds, shape_step}
use Rattle.og_plan.proofs.PlanEquations.{fold-Product, fold-KeyJoin, fold-OverlapJoin}
use Rattle.og_exec.proofs.ShapeLemmas.{width_of_both}
use Rattle.og_exec.proofs.widths.+width_of.Goals as goal

pub returns-in_ok-width_of-in-Product-2 : goal.returns-in_ok-width_of-in-Product-2
returns-in_ok-width_of-in-Product-2 t c =
    let i = c.in-Product in
    IfOk-weaker c.added.result _ _
    (λ n sum kinds e. sum ∙ width_of_both (plan_kinds i.left) (plan_kinds i.right) kinds _ _ (sym (ap (λ s. s.0) (fold-Product shape_step i.left i.right)) ∙ sym (ap plan_kinds i.is) ∙ e)
    (λ ks k. c.in_ok-width_of-in-Product.ensures ks (ap plan_kinds c.get-in-Product.ensures ∙ k))
    (λ ks k. c.in_ok-width_of-in-Product-2.ensures ks (ap plan_kinds c.get-in-Product-2.ensures ∙ k))) c.added.ensures

pub returns-in_ok-width_of-in-KeyJoin-2 : goal.returns-in_ok-width_of-in-KeyJoin-2
returns-in_ok-width_of-in-KeyJoin-2 t c =
    let i = c.in-KeyJoin in
    IfOk-weaker c.added-in-KeyJoin.result _ _
    (λ n sum kinds e. sum ∙ width_of_both (plan_kinds i.left) (plan_kinds i.right) kinds _ _ (sym (ap (λ s. s.0) (fold-KeyJoin shape_step i.left i.right i.pairs i.rest)) ∙ sym (ap plan_kinds i.is) ∙ e)
    (λ ks k. c.in_ok-width_of-in-KeyJoin.ensures ks (ap plan_kinds c.get-in-KeyJoin.ensures ∙ k))
    (λ ks k. c.in_ok-width_of-in-KeyJoin-2.ensures ks (ap plan_kinds c.get-in-KeyJoin-2.ensures ∙ k))) c.added-in-KeyJoin.ensures

pub returns-in_ok-width_of-in-OverlapJoin-2 : goal.returns-in_ok-width_of-in-OverlapJoin-2
returns-in_ok-width_of-in-OverlapJoin-2 t c =
    let i = c.in-OverlapJoin in
    IfOk-weaker c.added-in-OverlapJoin.result _ _
    (λ n sum kinds e. sum ∙ width_of_both (plan_kinds i.left) (plan_kinds i.right) kinds _ _ (sym (ap (λ s. s.0) (fold-OverlapJoin shape_step i.left i.right i.pair i.rest)) ∙ sym (ap plan_kinds i.is) ∙ e)
    (λ ks k. c.in_ok-width_of-in-OverlapJoin.ensures ks (ap plan_kinds c.get-in-OverlapJoin.ensures ∙ k))
    (λ ks k. c.in_ok-width_of-in-OverlapJoin-2.ensures ks (ap plan_kinds c.get-in-OverlapJoin-2.ensures ∙ k))) c.added-in-OverlapJoin.ensures
