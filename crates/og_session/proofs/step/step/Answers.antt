use Rattle.std.proofs.Common.{◌++◌, ap, subst, sym, ◌∙◌}
use Rattle.std.specs.Option.{option_to_list}
use Rattle.og_script.specs.LiveTexts.{IsLiveStmt}
use Rattle.og_session.specs.Asked.{StepAsks}
use Rattle.og_session.specs.Contents.{outcome}
use Rattle.og_session.specs.Ends.{StepEnds}
use Rattle.og_script.proofs.TurnLemmas.{reverse-last}
use Rattle.og_session.proofs.LeftLemmas.{same_first, same_rest}
use Rattle.og_session.proofs.step.step.Goals as goal

pub carried-requires-clause-live : goal.carried-requires-clause-live
carried-requires-clause-live g c κs within =
    let next = c.requires.next in
    let popped = reverse-last c.args.left.now.items c.pop.new.self.items c.in-Some.stmt (c.pop.ensures.items ∙ ap (λ o. c.pop.new.self.items ++ option_to_list o) c.in-Some.is) in
    subst IsLiveStmt (same_first (sym next.2 ∙ popped)) next.3

pub returns-clause-ends : goal.returns-clause-ends
returns-clause-ends g c stmt rest e start contents holds before state =
    let popped = reverse-last c.args.left.now.items c.pop.new.self.items c.in-Some.stmt (c.pop.ensures.items ∙ ap (λ o. c.pop.new.self.items ++ option_to_list o) c.in-Some.is) in
    let ends = c.carried.ensures.ends start contents holds before state in
    (ends.0, ends.1, subst (λ s. StepEnds start c.args.number before (outcome contents before s) c.carried.new.names (g.F.Files.folder c.carried.new.files) ends.0 c.carried.result) (same_first (sym popped ∙ e)) ends.2)

pub returns-clause-left : goal.returns-clause-left
returns-clause-left g c stmt rest e =
    let popped = reverse-last c.args.left.now.items c.pop.new.self.items c.in-Some.stmt (c.pop.ensures.items ∙ ap (λ o. c.pop.new.self.items ++ option_to_list o) c.in-Some.is) in
    same_rest (sym popped ∙ e)

pub returns-clause-asked : goal.returns-clause-asked
returns-clause-asked g c stmt rest e start contents holds before state =
    let popped = reverse-last c.args.left.now.items c.pop.new.self.items c.in-Some.stmt (c.pop.ensures.items ∙ ap (λ o. c.pop.new.self.items ++ option_to_list o) c.in-Some.is) in
    subst (λ s. StepAsks (outcome contents before s) c.carried.result (g.F.Files.calls c.args.files.now) (g.F.Files.calls c.carried.new.files)) (same_first (sym popped ∙ e)) (c.carried.ensures.asked start contents holds before state)
