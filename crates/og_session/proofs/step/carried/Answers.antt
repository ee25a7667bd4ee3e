use Rattle.std.proofs.Common.{◌≡◌, ap, inl, refl, sym, subst, Ok, Err}
use Rattle.og_check.specs.Statements.{checked}
use Rattle.og_db.specs.Held.{known_of}
use Rattle.og_faults.proofs.CountLemmas.{check_counted}
use Rattle.og_session.specs.Asked.{StepAsks}
use Rattle.og_session.specs.Contents.{outcome_of}
use Rattle.og_session.specs.Ends.{StepEnds}
use Rattle.og_session.proofs.StopLemmas.{check_stopped}
use Rattle.og_session.proofs.StateLemmas.{left_state}
use Rattle.og_session.proofs.StepLemmas.{check-stopped, typed_live}
use Rattle.og_session.proofs.GrownLemmas.{grown_none}
use Rattle.og_session.proofs.step.carried.Goals as goal

pub done-requires-clause-live : goal.done-requires-clause-live
done-requires-clause-live g c κs within = typed_live (known_of c.args.names.now.names) c.args.stmt c.in-Ok.typed c.requires.live c.in-Ok.ensures.typed

pub returns-in-Ok-clause-ends : goal.returns-in-Ok-clause-ends
returns-in-Ok-clause-ends g c start contents holds before state =
    let good = subst (λ k. checked k c.args.stmt ≡ Ok c.in-Ok.typed) (c.known_names.ensures c.args.names.now.names state.files before state.running.world) c.in-Ok.ensures.typed in
    let ends = c.done.ensures.ends start contents holds before state in
    (ends.0, ends.1, subst (λ o. StepEnds start c.args.number before o c.done.new.names (g.F.Files.folder c.done.new.files) ends.0 c.done.result) (sym (ap (outcome_of contents before) good)) ends.2)

pub returns-in-Err-clause-ends : goal.returns-in-Err-clause-ends
returns-in-Err-clause-ends g c start contents holds before state =
    let known = c.known_names.ensures c.args.names.now.names state.files before state.running.world in
    rw c.of_check.ensures
    (check-stopped start c.args.number before contents c.args.stmt c.args.names.now _ _ c.in-Err.refusal (left_state start before c.args.names.now _ state)
    (λ bad. subst (λ k. checked k c.args.stmt ≡ Err c.in-Err.refusal) known (c.in-Err.ensures.refused bad)))

pub returns-in-Err-clause-late : goal.returns-in-Err-clause-late
returns-in-Err-clause-late g c = rw c.of_check.ensures (check_stopped c.args.number c.in-Err.refusal)

pub returns-in-Err-clause-files : goal.returns-in-Err-clause-files
returns-in-Err-clause-files g c = rw c.of_check.ensures (check_counted c.args.number c.in-Err.refusal _).0

pub returns-in-Err-clause-writes : goal.returns-in-Err-clause-writes
returns-in-Err-clause-writes g c = rw c.of_check.ensures (check_counted c.args.number c.in-Err.refusal _).1

pub returns-in-Err-clause-absences : goal.returns-in-Err-clause-absences
returns-in-Err-clause-absences g c = rw c.of_check.ensures (check_counted c.args.number c.in-Err.refusal _).2

pub returns-in-Err-clause-grown : goal.returns-in-Err-clause-grown
returns-in-Err-clause-grown g c = grown_none _

pub returns-in-Ok-clause-asked : goal.returns-in-Ok-clause-asked
returns-in-Ok-clause-asked g c start contents holds before state =
    let good = subst (λ k. checked k c.args.stmt ≡ Ok c.in-Ok.typed) (c.known_names.ensures c.args.names.now.names state.files before state.running.world) c.in-Ok.ensures.typed in
    subst (λ o. StepAsks o c.done.result (g.F.Files.calls c.args.files.now) (g.F.Files.calls c.done.new.files)) (sym (ap (outcome_of contents before) good)) (c.done.ensures.asked contents before)

pub returns-in-Err-clause-asked : goal.returns-in-Err-clause-asked
returns-in-Err-clause-asked g c start contents holds before state = inl refl
