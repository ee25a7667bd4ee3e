use Rattle.std.proofs.Common.{ℕ, List, None, sym}
use Rattle.std.proofs.lemmas.Result.{err_from_is_err_and}
use Rattle.og_session.proofs.StepLemmas.{effect-names}
use Rattle.og_sql.proofs.CheckSteps.{outside-stopped, refused-ends}
use Rattle.og_sql.proofs.step.sql_of_typed.Goals as goal

pub returns-in-Some-clause-ends : goal.returns-in-Some-clause-ends
returns-in-Some-clause-ends g c start contents before held =
    outside-stopped c.args.context.number before contents c.args.outline.now (Unit {0}) c.args.typed c.in-Some.what (sym c.in-Some.ensures) (effect-names (λ _. None) c.args.context.number before contents)

pub returns-in_err-done-in-None-clause-ends : goal.returns-in_err-done-in-None-clause-ends
returns-in_err-done-in-None-clause-ends g c start contents before held =
    let p = err_from_is_err_and c.from_residual.result c.from_residual.ensures.1 in
    rw (p.1, p.2) (refused-ends (Unit {0}) (List ℕ) c.args.context.number before _ c.put_typed-done.new.outline c.in_err-done-in-None.field-0.0 (c.in_err-done-in-None.ensures.ends start contents before held))

pub returns-in_ok-done-in-None-clause-ends : goal.returns-in_ok-done-in-None-clause-ends
returns-in_ok-done-in-None-clause-ends g c start contents before held = c.in_ok-done-in-None.ensures.ends start contents before held
