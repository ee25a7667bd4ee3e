use Rattle.std.proofs.Common.{◌≡◌, ◌∙◌, ap, subst, sym}
use Rattle.og_query.specs.declared.typed.Typed.TheVariants as t
use Rattle.og_db.specs.Effects.{on_names}
use Rattle.og_db.specs.Held.{without}
use Rattle.og_session.specs.Following.{lasting, settle_views}
use Rattle.og_session.specs.Names.{AreLiveViews, IsDone, watched}
use Rattle.og_session.proofs.DropNames.{drop_alike, drop_sized}
use Rattle.og_session.proofs.DropViews.{dropped, watched_left}
use Rattle.og_session.proofs.names.Names.drop_name.Goals as goal

pub invariant_of-self : goal.invariant_of-self
invariant_of-self c =
    let db = c.self.inside.db in
    let views = c.self.inside.views.entries in
    let name = c.args.name.now in
    let left : c.drop_name.new.self ≡ without name (settle_views name views db) = c.drop_name.ensures.dropped ∙ ap (without name) c.settle_all.ensures.settled in
    subst (λ es. AreLiveViews c.drop_name.new.self es) (sym c.settle_all.ensures.left)
    (subst (λ d. AreLiveViews d (lasting name views)) (sym left) (watched_left name db views c.settle_all.ensures.apart c.self.invariant))

pub returns : goal.returns
returns c =
    let db = c.self.inside.db in
    let views = c.self.inside.views.entries in
    let name = c.args.name.now in
    let left : c.drop_name.new.self ≡ without name (settle_views name views db) = c.drop_name.ensures.dropped ∙ ap (without name) c.settle_all.ensures.settled in
    subst (λ n. IsDone n (watched c.drop_name.new.self c.settle_all.new.views.entries) (on_names (t.Drop name, tt))) c.self.view_is
    (subst (λ es. IsDone (watched db views) (watched c.drop_name.new.self es) (on_names (t.Drop name, tt))) (sym c.settle_all.ensures.left)
    (subst (λ d. IsDone (watched db views) (watched d (lasting name views)) (on_names (t.Drop name, tt))) (sym left)
    (dropped name db views c.settle_all.ensures.apart c.self.invariant
    (drop_alike name views c.settle_all.ensures.apart db) (drop_sized name views c.settle_all.ensures.apart db c.names_differ.ensures c.self.invariant))))
