use Rattle.std.proofs.Common.{◌≡◌, ◌≤◌, ◌∙◌, ◌++◌, ◌∷◌, [], ℤ, None, length, ap, subst, sym}
use Rattle.og_base.specs.Calendar.{IsRefDay}
use Rattle.og_value.specs.Order.{row_order}
use Rattle.og_value.specs.Values.{row_at}
use Rattle.og_rel.specs.Relations.{relation_at}
use Rattle.og_query.specs.Queries.{ordinary_query}
use Rattle.og_query.specs.Sizes.{query_size}
use Rattle.og_db.specs.Database.{names_at}
use Rattle.og_db.specs.Runs.{sizes_at}
use Rattle.og_db.specs.Statements.{named_rows, named_sizes}
use Rattle.std.proofs.lemmas.Result.{on_ok_weaker}
use Rattle.og_value.specs.declared.kind.What.TheVariants as what
use Rattle.og_query.specs.declared.typed.Typed.TheVariants as t
use Rattle.og_db.specs.Effects.{on_names}
use Rattle.og_db.specs.Held.{known_of}
use Rattle.og_db.proofs.EntryLemmas.{either_way}
use Rattle.og_session.specs.Names.{AreLiveViews, IsDone, watched, with_views}
use Rattle.og_session.proofs.LiveViews.{live_push, unwatched}
use Rattle.og_session.proofs.LiveWorlds.{is_live}
use Rattle.og_session.proofs.NameLemmas.{known_of-shown, shown-push}
use Rattle.og_session.proofs.NameSteps.{keep_done}
use Rattle.og_session.proofs.names.Names.keep.Goals as goal

pub keep-requires-clause-new : goal.keep-requires-clause-new
keep-requires-clause-new c =
    sym (known_of-shown c.self.inside.views.entries c.self.inside.db c.args.name) ∙ ap (λ n. known_of n.names c.args.name) c.self.view_is ∙ c.requires.new

pub invariant_of-self : goal.invariant_of-self
invariant_of-self c =
    let views = c.self.inside.views.entries in
    either_way c.keep.result c.keep.ensures.kept c.keep.ensures.refused
    (λ e. subst (λ db. AreLiveViews db views) (sym e) (live_push c.self.inside.db views c.self.invariant _))
    (λ e. subst (λ db. AreLiveViews db views) (sym e) c.self.invariant)

pub returns-clause-kept : goal.returns-clause-kept
returns-clause-kept c =
    let views = c.self.inside.views.entries in
    let db = c.self.inside.db in
    let is_new : known_of db c.args.name ≡ None = sym (known_of-shown views db c.args.name) ∙ ap (λ n. known_of n.names c.args.name) c.self.view_is ∙ c.requires.new in
    on_ok_weaker c.keep.result
    (λ e. ap (with_views views) e ∙ shown-push views db (record { name = c.args.name; what = what.Kept; columns = c.args.schema; rows = c.args.rel }) (unwatched db views c.self.invariant c.args.name (ap is_live is_new))
    ∙ ap (λ n. n.names ++ record { name = c.args.name; what = what.Kept; columns = c.args.schema; rows = c.args.rel } ∷ []) c.self.view_is)
    c.keep.ensures.kept

pub returns-clause-done : goal.returns-clause-done
returns-clause-done c =
    let views = c.self.inside.views.entries in
    let db = c.self.inside.db in
    on_ok_weaker c.keep.result
    (λ e query columns rows size. subst (λ n. IsDone n (watched c.keep.new.self views) (on_names (t.Keep c.args.name query, tt))) c.self.view_is
    (subst (λ d. IsDone (watched db views) (watched d views) (on_names (t.Keep c.args.name query, tt))) (sym e)
    (keep_done db views c.self.invariant c.names_differ.ensures c.args.name c.args.schema c.args.rel query columns
    (subst (λ n. (d : ℤ) → IsRefDay d → relation_at row_order row_at c.args.rel d ≡ ordinary_query d (named_rows (names_at d n.names)) query) (sym c.self.view_is) rows)
    (subst (λ n. length c.args.rel ≤ query_size (named_sizes (sizes_at n.names)) query) (sym c.self.view_is) size))))
    c.keep.ensures.kept

pub returns-clause-views : goal.returns-clause-views
returns-clause-views c = on_ok_weaker c.keep.result (λ e. ap (λ n. n.views) c.self.view_is) c.keep.ensures.kept
