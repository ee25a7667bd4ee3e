use Rattle.std.proofs.Common.{◌≡◌, ◌+◌, ◌<◌, suc, rules, refl, ap, subst, true≢false, sym, ◌∙◌, arith}
use Rattle.indexmap.specs.IndexMap.{set_value_at}
use Rattle.og_session.specs.Following.{IsEnded}
use Rattle.og_session.proofs.FollowLemmas.{AreAhead, ahead-last, ahead-length, ahead-step}
use Rattle.og_session.proofs.follow.end.Goals as goal
use Rattle.og_session.proofs.follow.end.Goals.{then-done, else-done}

pub views-init : goal.views-init
views-init c = refl

pub index_mut-requires : goal.index_mut-requires
index_mut-requires c =
    let same = ahead-length (IsEnded c.args.done) c.views.at c.args.views.now.entries c.views.views.entries c.views.invariant in
    subst (λ n. c.views.at < n) (sym same) (search rules)

pub index_mut-requires-else-done : goal.index_mut-requires-else-done
index_mut-requires-else-done c =
    let same = ahead-length (IsEnded c.args.done) c.views.at c.args.views.now.entries c.views.views.entries c.views.invariant in
    subst (λ n. c.views.at < n) (sym same) (search rules)

pub views-preserved : goal.views-preserved
views-preserved c =
    let R = IsEnded c.args.done in
    let old = c.args.views.now.entries in
    let now = c.views.views.entries in
    let one : suc c.views.at ≡ c.views.at + 1 = omega arith in
    subst (λ n. AreAhead R n old c.if-done.views.entries) one
    (elim c.if-done.branch [
      | then-done w ↦ subst (AreAhead R (suc c.views.at) old) (sym (ap (λ m. m.entries) w.views-is))
          (ahead-step R c.views.at old now w.index_mut.result.now w.put.new.self c.views.invariant w.index_mut.ensures.value
          (record { query = w.put.ensures.query; next = w.put.ensures.next; put = λ _. w.put.ensures.result; undone = λ not. absurd (true≢false (sym w.if-done.true ∙ not)) }))
      | else-done w ↦ subst (AreAhead R (suc c.views.at) old) (sym (ap (λ m. m.entries) w.views-is))
          (ahead-step R c.views.at old now w.index_mut-else-done.result.now w.undo.new.self c.views.invariant w.index_mut-else-done.ensures.value
          (record { query = w.undo.ensures.query; next = w.undo.ensures.next; put = λ is. absurd (true≢false (sym is ∙ w.if-done.false)); undone = λ _. w.undo.ensures.result }))
    ])

pub returns : goal.returns
returns c = ahead-last (IsEnded c.args.done) c.views.at c.args.views.now.entries c.views.views.entries c.views.invariant (search rules)
