use Rattle.std.proofs.Common.{ap, take, ◌∙◌}
use Rattle.std.proofs.lemmas.Result.{IfOk-weaker}
use Rattle.og_query.specs.Conditions.{truth}
use Rattle.og_view.specs.Parts.{width_of}
use Rattle.og_reduce.specs.Sieves.{passes, tests_from}
use Rattle.og_view.proofs.placed.Placed.tests_at.Goals as goal

pub returns-in_ok-tests-in-Some : goal.returns-in_ok-tests-in-Some
returns-in_ok-tests-in-Some c =
    let start = c.in-Some.ensures ∙ ap (λ tables. width_of (take c.args.place tables)) (c.as_slice-tables.ensures ∙ ap (λ core. core.tables) c.self.view_is) in
    IfOk-weaker c.shared.result _ _ (λ tests shares d row holds passing.
    shares d row (ap (λ core. truth d row core.cond) c.self.view_is ∙ holds) (c.in_ok-tests-in-Some.ensures row (ap (λ n. passes (tests_from n c.args.keys.now) row) start ∙ passing)))
    c.shared.ensures
