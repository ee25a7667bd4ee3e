use Rattle.std.proofs.Common.{◌≡◌, ◌∙◌, ◌++◌, ◌∷◌, [], None, ap, subst, sym}
use Rattle.std.specs.Map.{lookup}
use Rattle.std.specs.Str.{bytes_eq}
use Rattle.indexmap.proofs.CallerLemmas.{insert_entry-new}
use Rattle.og_value.specs.declared.kind.What.TheVariants as what
use Rattle.og_query.specs.Fits.{IsFitQuery, tables_of}
use Rattle.og_query.specs.declared.typed.Typed.TheVariants as t
use Rattle.og_db.specs.Effects.{on_names}
use Rattle.og_db.specs.Held.{known_of}
use Rattle.og_view.specs.Views.{IsAnswerOver}
use Rattle.og_session.specs.Names.{AreLiveViews, IsDone, watched}
use Rattle.og_session.proofs.LiveSteps.{live_entered}
use Rattle.og_session.proofs.LiveViews.{live_push, unwatched}
use Rattle.og_session.proofs.LiveWorlds.{is_live}
use Rattle.og_session.proofs.NameLemmas.{known_of-shown}
use Rattle.og_session.proofs.names.Names.live.Goals as goal

pub new-requires-clause-fits : goal.new-requires-clause-fits
new-requires-clause-fits g c κs within =
    let db = c.self.inside.db in
    let path : known_of c.args.self.now.names ≡ known_of db = λ i name. (sym (sym (known_of-shown c.self.inside.views.entries db name) ∙ ap (λ n. known_of n.names name) c.self.view_is)) i in
    subst (λ k. IsFitQuery (tables_of k) c.args.query.now) path c.requires.fits.1

pub live-requires : goal.live-requires
live-requires g c =
    let db = c.self.inside.db in
    let views = c.self.inside.views.entries in
    subst (λ name. known_of db name ≡ None) (sym c.in_ok-shown.ensures)
    (sym (known_of-shown views db c.args.name.now) ∙ ap (λ n. known_of n.names c.args.name.now) c.self.view_is ∙ c.requires.fits.0)

pub invariant_of-self-in_err-insert : goal.invariant_of-self-in_err-insert
invariant_of-self-in_err-insert g c =
    let db = c.self.inside.db in
    let views = c.self.inside.views.entries in
    subst (λ es. AreLiveViews c.live.new.self es) (sym c.in_err-insert.ensures.err)
    (subst (λ d. AreLiveViews d views) (sym c.in_ok-live.ensures.added) (live_push db views c.self.invariant _))

pub invariant_of-self-2 : goal.invariant_of-self-2
invariant_of-self-2 g c =
    let db = c.self.inside.db in
    let views = c.self.inside.views.entries in
    let name = c.args.name.now in
    let view = c.in_ok-view.view in
    let new : known_of db name ≡ None = sym (known_of-shown views db name) ∙ ap (λ n. known_of n.names name) c.self.view_is ∙ c.requires.fits.0 in
    let none : lookup (bytes_eq c.in_ok-key.key) views ≡ None = ap (λ n. lookup (bytes_eq n) views) c.in_ok-key.ensures ∙ unwatched db views c.self.invariant name (ap is_live new) in
    let entries = c.in_ok-insert.ensures.entries ∙ insert_entry-new bytes_eq c.self.inside.views c.in_ok-key.key view none ∙ ap (λ n. views ++ (n, view) ∷ []) c.in_ok-key.ensures in
    let left =
    c.in_ok-live.ensures.added
    ∙ (λ i. db ++ record { name = c.in_ok-shown.ensures i; what = what.Live; columns = (c.in_ok-schema.ensures ∙ ap (λ q. q.first.schema) (sym c.in_ok-view.ensures.query)) i; rows = [] } ∷ []) in
    let answer = subst (λ q. IsAnswerOver db q view.result) (sym c.in_ok-view.ensures.query) c.in_ok-view.ensures.answer in
    (live_entered db views c.self.invariant name view c.live.new.self c.insert.new.self.entries new c.names_differ.ensures c.in_ok-view.ensures.next answer left entries).0

pub returns-clause-done : goal.returns-clause-done
returns-clause-done g c =
    let db = c.self.inside.db in
    let views = c.self.inside.views.entries in
    let name = c.args.name.now in
    let view = c.in_ok-view.view in
    let new : known_of db name ≡ None = sym (known_of-shown views db name) ∙ ap (λ n. known_of n.names name) c.self.view_is ∙ c.requires.fits.0 in
    let none : lookup (bytes_eq c.in_ok-key.key) views ≡ None = ap (λ n. lookup (bytes_eq n) views) c.in_ok-key.ensures ∙ unwatched db views c.self.invariant name (ap is_live new) in
    let entries = c.in_ok-insert.ensures.entries ∙ insert_entry-new bytes_eq c.self.inside.views c.in_ok-key.key view none ∙ ap (λ n. views ++ (n, view) ∷ []) c.in_ok-key.ensures in
    let left =
    c.in_ok-live.ensures.added
    ∙ (λ i. db ++ record { name = c.in_ok-shown.ensures i; what = what.Live; columns = (c.in_ok-schema.ensures ∙ ap (λ q. q.first.schema) (sym c.in_ok-view.ensures.query)) i; rows = [] } ∷ []) in
    let answer = subst (λ q. IsAnswerOver db q view.result) (sym c.in_ok-view.ensures.query) c.in_ok-view.ensures.answer in
    subst (λ q. IsDone c.args.self.now (watched c.live.new.self c.insert.new.self.entries) (on_names (t.Live name q, tt))) c.in_ok-view.ensures.query
    (subst (λ n. IsDone n (watched c.live.new.self c.insert.new.self.entries) (on_names (t.Live name view.query, tt))) c.self.view_is
    (live_entered db views c.self.invariant name view c.live.new.self c.insert.new.self.entries new c.names_differ.ensures c.in_ok-view.ensures.next answer left entries).1)
