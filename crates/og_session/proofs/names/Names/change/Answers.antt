use Rattle.std.proofs.Common.{◌≡◌, ◌∙◌, Err, ap, is_ok, refl, subst, sym}
use Rattle.std.proofs.lemmas.Result.{on_err_weaker, on_ok_weaker}
use Rattle.og_query.specs.Fits.{IsFit}
use Rattle.og_db.specs.Effects.{on_names}
use Rattle.og_db.specs.Held.{known_of}
use Rattle.og_session.specs.Following.{ArePaired, IsEnded}
use Rattle.og_session.specs.Names.{IsDone, watched}
use Rattle.og_session.proofs.ChangeSteps.{IsOutcome, outcome_of}
use Rattle.og_session.proofs.NameLemmas.{known_of-shown}
use Rattle.og_session.proofs.names.Names.change.Given.{Over}
use Rattle.og_session.proofs.names.Names.change.Goals as goal
use Rattle.og_session.proofs.names.Names.change.Goals.{in-Ok, in-Err}

pub delta_of-requires-clause-fits : goal.delta_of-requires-clause-fits
delta_of-requires-clause-fits g c =
    let db = c.self.inside.db in
    let path : known_of c.args.self.now.names ≡ known_of db = λ i name. (sym (sym (known_of-shown c.self.inside.views.entries db name) ∙ ap (λ n. known_of n.names name) c.self.view_is)) i in
    subst (λ k. IsFit k c.args.stmt) path c.requires.fits

-- what is held at the end
outcome : (g : Over) (c : goal.After-drop-name-inside g)
    → IsOutcome c.self.inside.db c.self.inside.views.entries c.in_ok-name.name c.in_ok-name.delta c.match-follow.self-inside.db c.end.new.views.entries c.match-follow.done
outcome g c =
    let db = c.self.inside.db in
    let views = c.self.inside.views.entries in
    let name = c.in_ok-name.name in
    let delta = c.in_ok-name.delta in
    let mid = c.follow.new.views.entries in
    let now = c.end.new.views.entries in
    let done = c.match-follow.done in
    let ended = subst (λ b. ArePaired (IsEnded b) c.match-follow.self-inside.views.entries now) c.is_ok.ensures.value c.end.ensures in
    elim c.match-follow.branch [
      | in-Ok w ↦ subst (λ s. IsOutcome db views name delta s.db now done) (sym w.self-inside-is)
          (subst (IsOutcome db views name delta w.apply-done.new.self now) (sym w.done-is)
          (outcome_of db views c.self.invariant c.names_differ.ensures name delta c.in_ok-name.ensures.delta w.apply-done.new.self mid now w.apply-done.result
          (on_ok_weaker w.apply-done.result (λ applied. (w.in-Ok.ensures.followed, applied)) w.apply-done.ensures.applied) w.apply-done.ensures.refused
          w.in-Ok.ensures.same (subst (λ r. ArePaired (IsEnded (is_ok r)) mid now) w.done-is (subst (λ s. ArePaired (IsEnded (is_ok done)) s.views.entries now) w.self-inside-is ended))))
      | in-Err w ↦ subst (λ s. IsOutcome db views name delta s.db now done) (sym w.self-inside-is)
          (subst (IsOutcome db views name delta db now) (sym w.done-is)
          (outcome_of db views c.self.invariant c.names_differ.ensures name delta c.in_ok-name.ensures.delta db mid now (Err w.in-Err.refusal) tt refl
          w.in-Err.ensures.same (subst (λ r. ArePaired (IsEnded (is_ok r)) mid now) w.done-is (subst (λ s. ArePaired (IsEnded (is_ok done)) s.views.entries now) w.self-inside-is ended))))
    ]

pub invariant_of-self : goal.invariant_of-self
invariant_of-self g c = (outcome g c).live

pub returns-clause-done : goal.returns-clause-done
returns-clause-done g c =
    let new = watched c.match-follow.self-inside.db c.end.new.views.entries in
    on_ok_weaker c.match-follow.done (λ done of. subst (λ n. IsDone n new (on_names (c.args.stmt, of))) c.self.view_is (done (c.args.stmt, of) c.requires.change (c.in_ok-name.ensures.does of))) (outcome g c).done

pub returns-clause-refused : goal.returns-clause-refused
returns-clause-refused g c = on_err_weaker c.match-follow.done (λ same. same ∙ c.self.view_is) (outcome g c).refused
