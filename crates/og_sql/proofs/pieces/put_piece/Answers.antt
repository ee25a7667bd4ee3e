use Rattle.std.proofs.Common.{◌++◌, ℕ, List, Err, Ok, ap, subst, sym, ◌∙◌}
use Rattle.std.specs.Option.{option_to_list}
use Rattle.std.proofs.lemmas.Result.{err_from_is_err_and}
use Rattle.og_script.proofs.TurnLemmas.{reverse-last}
use Rattle.og_session.specs.Contents.{outcome}
use Rattle.og_session.proofs.LeftLemmas.{same_first}
use Rattle.og_sql.specs.Translations.{StepEnds}
use Rattle.og_sql.proofs.CheckSteps.{refused-ends}
use Rattle.og_sql.proofs.pieces.put_piece.Goals as goal

pub returns-in_err-piece-clause-ends : goal.returns-in_err-piece-clause-ends
returns-in_err-piece-clause-ends g c stmt rest e start contents before held =
    let p = err_from_is_err_and c.from_residual.result c.from_residual.ensures.1 in
    let popped = reverse-last c.args.left.now.items c.pop.new.self.items c.in-Some.stmt (c.pop.ensures.items ∙ ap (λ o. c.pop.new.self.items ++ option_to_list o) c.in-Some.is) in
    rw (p.1, p.2)
    (refused-ends (List ℕ) (Unit {0}) c.args.context.number before (outcome contents before stmt) c.piece_of.new.outline c.in_err-piece.field-0.0
    (subst (λ s. StepEnds {T = List ℕ} c.args.context.number before (outcome contents before s) c.piece_of.new.outline (Err c.in_err-piece.field-0.0)) (same_first (sym popped ∙ e)) (c.in_err-piece.ensures.ends start contents before held)))

pub returns-clause-ends : goal.returns-clause-ends
returns-clause-ends g c stmt rest e start contents before held =
    let popped = reverse-last c.args.left.now.items c.pop.new.self.items c.in-Some.stmt (c.pop.ensures.items ∙ ap (λ o. c.pop.new.self.items ++ option_to_list o) c.in-Some.is) in
    subst (λ s. StepEnds {T = Unit {0}} c.args.context.number before (outcome contents before s) c.piece_of.new.outline (Ok tt)) (same_first (sym popped ∙ e)) (c.in_ok-piece.ensures.ends start contents before held)
