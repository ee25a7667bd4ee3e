use Rattle.std.proofs.Common.{◌≡◌, ℕ, List, Err, Ok, ap, subst, sym}
use Rattle.og_check.specs.Statements.{checked}
use Rattle.og_session.specs.Contents.{outcome_of}
use Rattle.og_sql.specs.Translations.{StepEnds}
use Rattle.og_sql.proofs.CheckSteps.{check-stopped}
use Rattle.og_sql.proofs.step.sql_of.Goals as goal

pub returns-in-Ok-clause-ends : goal.returns-in-Ok-clause-ends
returns-in-Ok-clause-ends g c start contents before held =
    let good = subst (λ k. checked k c.args.stmt ≡ Ok c.in-Ok.typed) (c.known_outline.ensures c.args.outline.now before held.outline) c.in-Ok.ensures.typed in
    subst (λ r. StepEnds c.args.context.number before r c.sql_of_typed.new.outline c.sql_of_typed.result) (sym (ap (outcome_of contents before) good)) (c.sql_of_typed.ensures.ends start contents before held)

pub returns-in-Err-clause-ends : goal.returns-in-Err-clause-ends
returns-in-Err-clause-ends g c start contents before held =
    let known = c.known_outline.ensures c.args.outline.now before held.outline in
    rw c.of_check.ensures
    (check-stopped c.args.context.number before contents c.args.outline.now (List ℕ) c.args.stmt c.in-Err.refusal (λ bad. subst (λ k. checked k c.args.stmt ≡ Err c.in-Err.refusal) known (c.in-Err.ensures.refused bad)))
