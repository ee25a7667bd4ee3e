use Rattle.std.proofs.Common.{◌∙◌, ap, subst, sym}
use Rattle.std.proofs.lemmas.Result.{on_ok_weaker}
use Rattle.og_query.specs.declared.typed.Typed.TheVariants as t
use Rattle.og_db.specs.Effects.{on_names}
use Rattle.og_db.specs.Held.{known_of}
use Rattle.og_db.proofs.EntryLemmas.{either_way}
use Rattle.og_session.specs.Names.{AreLiveViews, IsDone, watched}
use Rattle.og_session.proofs.LiveViews.{live_push}
use Rattle.og_session.proofs.NameLemmas.{known_of-shown}
use Rattle.og_session.proofs.NameSteps.{create_done}
use Rattle.og_session.proofs.names.Names.create.Goals as goal

pub create-requires : goal.create-requires
create-requires c = sym (known_of-shown c.self.inside.views.entries c.self.inside.db c.args.name) ∙ ap (λ n. known_of n.names c.args.name) c.self.view_is ∙ c.requires

pub invariant_of-self : goal.invariant_of-self
invariant_of-self c =
    let views = c.self.inside.views.entries in
    either_way c.create.result c.create.ensures.created c.create.ensures.refused
    (λ e. subst (λ db. AreLiveViews db views) (sym e) (live_push c.self.inside.db views c.self.invariant _))
    (λ e. subst (λ db. AreLiveViews db views) (sym e) c.self.invariant)

pub returns-clause-done : goal.returns-clause-done
returns-clause-done c =
    let views = c.self.inside.views.entries in
    let db = c.self.inside.db in
    on_ok_weaker c.create.result
    (λ e. subst (λ n. IsDone n (watched c.create.new.self views) (on_names (t.Create c.args.name c.args.schema, tt))) c.self.view_is
    (subst (λ d. IsDone (watched db views) (watched d views) (on_names (t.Create c.args.name c.args.schema, tt))) (sym e)
    (create_done db views c.self.invariant c.names_differ.ensures c.args.name c.args.schema)))
    c.create.ensures.created
