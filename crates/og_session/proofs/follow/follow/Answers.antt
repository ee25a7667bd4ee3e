use Rattle.std.proofs.Common.{◌≡◌, ◌+◌, ◌<◌, suc, rules, refl, ap, subst, sym, ◌∙◌, arith}
use Rattle.std.proofs.lemmas.List.Elements.{recursion_from_All}
use Rattle.indexmap.specs.IndexMap.{set_value_at}
use Rattle.og_session.specs.Following.{ArePaired, Follows, IsSame}
use Rattle.og_session.specs.Names.{IsLiveView}
use Rattle.og_session.proofs.FollowLemmas.{AreAhead, ahead-each, ahead-last, ahead-length, ahead-next, ahead-step, set-same}
use Rattle.og_session.proofs.follow.follow.Goals as goal

pub views-init : goal.views-init
views-init g c = refl

pub index_mut-requires : goal.index_mut-requires
index_mut-requires g c =
    let same = ahead-length (Follows c.args.db.now c.args.name.now c.args.delta.now) c.views.at c.args.views.now.entries c.views.views.entries c.views.invariant in
    subst (λ n. c.views.at < n) (sym same) (search rules)

pub follow-requires-clause-none : goal.follow-requires-clause-none
follow-requires-clause-none g c κs within =
    let db = c.args.db.now in
    let old = c.args.views.now.entries in
    (ahead-next (Follows db c.args.name.now c.args.delta.now) (IsLiveView db) c.views.at old c.views.views.entries c.index_mut.result.now c.views.invariant (recursion_from_All (IsLiveView db) old c.requires.live) c.index_mut.ensures.value).1.settled

pub follow-requires-clause-answer : goal.follow-requires-clause-answer
follow-requires-clause-answer g c κs within =
    let db = c.args.db.now in
    let old = c.args.views.now.entries in
    (ahead-next (Follows db c.args.name.now c.args.delta.now) (IsLiveView db) c.views.at old c.views.views.entries c.index_mut.result.now c.views.invariant (recursion_from_All (IsLiveView db) old c.requires.live) c.index_mut.ensures.value).1.answer

pub returns-in_err-follow-clause-same : goal.returns-in_err-follow-clause-same
returns-in_err-follow-clause-same g c =
    let old = c.args.views.now.entries in
    let now = c.views.views.entries in
    subst (ArePaired IsSame old) (sym (ap (set_value_at now c.views.at) c.in_err-follow.ensures.refused ∙ set-same now c.views.at c.index_mut.result.now c.index_mut.ensures.value))
    (ahead-each (Follows c.args.db.now c.args.name.now c.args.delta.now) IsSame (λ v w is. is.same) (λ v. record { query = refl; result = refl }) c.views.at old now c.views.invariant)

pub views-preserved : goal.views-preserved
views-preserved g c =
    let R = Follows c.args.db.now c.args.name.now c.args.delta.now in
    let old = c.args.views.now.entries in
    let now = c.views.views.entries in
    let is = c.in_ok-follow.ensures in
    let one : suc c.views.at ≡ c.views.at + 1 = omega arith in
    subst (λ n. AreAhead R n old (set_value_at now c.views.at c.follow.new.self)) one
    (ahead-step R c.views.at old now c.index_mut.result.now c.follow.new.self c.views.invariant c.index_mut.ensures.value (record { same = record { query = is.query; result = is.result }; next = is.next }))

pub returns-clause-followed : goal.returns-clause-followed
returns-clause-followed g c = ahead-last (Follows c.args.db.now c.args.name.now c.args.delta.now) c.views.at c.args.views.now.entries c.views.views.entries c.views.invariant (search rules)

pub returns-clause-same : goal.returns-clause-same
returns-clause-same g c =
    ahead-each (Follows c.args.db.now c.args.name.now c.args.delta.now) IsSame (λ v w is. is.same) (λ v. record { query = refl; result = refl }) c.views.at c.args.views.now.entries c.views.views.entries c.views.invariant
