-- What a run holds after one statement more.
use Rattle.std.proofs.Common.{◌≡◌, ◌≤◌, ◌++◌, ℕ, ℤ, true, List, [], ◌∷◌, Some, None, length, sym, ap, ◌∙◌, subst, arith}
use Rattle.std.specs.Map.{lookup}
use Rattle.std.specs.Option.{option_map}
use Rattle.std.specs.Str.{bytes_eq}
use Rattle.std.proofs.lemmas.List.Sums.{fold-append}
use Rattle.og_base.specs.Calendar.{IsRefDay}
use Rattle.og_value.specs.Order.{row_order}
use Rattle.og_value.specs.Values.{row_at}
use Rattle.og_rel.specs.Relations.{relation_at}
use Rattle.og_query.specs.Queries.{Fixed, ordinary_query}
use Rattle.og_query.specs.Sizes.{query_size}
use Rattle.og_query.specs.declared.query.Query.{Query}
use Rattle.og_exec.specs.Tables.{rows_at, sizes_of}
use Rattle.og_db.specs.Database.{Relation, names_at}
use Rattle.og_db.specs.Effects.{Effect, on_names, ordinary_statement, size_after, sizes_after, statement_names, statement_sizes, world_of_day}
use Rattle.og_db.specs.Held.{Held, rows_of}
use Rattle.og_db.specs.Live.{Live, live_after, query_of, settled, refreshed, uses}
use Rattle.og_db.specs.Runs.{AreWithin, live_of, sizes_at}
use Rattle.og_db.specs.Statements.{Names, OfNames, named_rows, named_sizes, names_after, name_sizes_after, or_else}
use Rattle.og_db.proofs.LiveLemmas.{live_on_day}
use Rattle.og_db.proofs.LiveNames.{rows_of-refreshed, settled-same}
use Rattle.og_db.proofs.SizeLemmas.{query_more, within-named}
use Rattle.og_view.specs.Views.{Seen}
use Rattle.og_session.specs.Names.{AreLiveViews, IsLiveView, IsRunning, Views, Watched, lives_of, watched, with_views}
use Rattle.og_session.proofs.AnswerLemmas.{rows_at-world, sizes_of-names}
use Rattle.og_session.proofs.FollowedNames.{rows_of-settled}
use Rattle.og_session.proofs.LiveViews.{found_view, used_unwatched}
use Rattle.og_session.proofs.NameLemmas.{made-shown, query_of-lives, within-shown}
use Rattle.og_view.proofs.UsedLemmas.{query_same}

module _ (old : Watched) (db files : List (Held Relation)) (views : Views) (stmt : OfNames) (effects : List Effect) where
  abbrev before : List Live
  before = lives_of old.views

  abbrev now : List Live
  now = lives_of views

  abbrev sizes : List (Held ℕ)
  sizes = (sizes_after effects).names

  abbrev after : ℤ → Names
  after d = names_after d (names_at d old.names) stmt

  abbrev most : List (Held ℕ)
  most = name_sizes_after sizes stmt

  -- what a statement has to do to the database and the views
  pub record IsCarriedOut : Type 0 where
    pub running : IsRunning old files effects
    pub watched : AreLiveViews db views
    pub live : now ≡ live_after before stmt.0
    pub alike : (d : ℤ) → IsRefDay d → (f : Query → List Fixed) → refreshed f now (names_at d db) ≡ refreshed f now (settled before now (after d))
    pub sized : AreWithin (sizes_at db) (settled before now most)

  module _ (done : IsCarriedOut) where
    -- what a view uses has on each day the rows that the statement leaves it
    used_rows : (v : List ℕ × Seen) → IsLiveView db v → (d : ℤ) → IsRefDay d → (name : List ℕ) → uses v.1.query name ≡ true → rows_at (rows_of db) d name ≡ named_rows (after d) name
    used_rows v is d day name used =
        let none : query_of now name ≡ None = query_of-lives views name ∙ ap (option_map (λ s. s.query)) (used_unwatched db views done.watched v is name used) in
        let f : Query → List Fixed = λ query. [] in
        ap (λ rows. rows name) (rows_at-world d db)
        ∙ ap (or_else [])
        (sym (rows_of-refreshed now f name none (names_at d db)) ∙ ap (λ hs. rows_of hs name) (done.alike d day f)
        ∙ rows_of-refreshed now f name none (settled before now (after d)) ∙ rows_of-settled before now (after d) name)

    -- no name has more rows than its size then
    sizes_left : (name : List ℕ) → sizes_of (rows_of db) name ≤ named_sizes most name
    sizes_left name =
        subst (λ n. n ≤ named_sizes most name) (ap (λ sizes. sizes name) (sym (sizes_of-names db)))
        (subst (λ o. named_sizes (sizes_at db) name ≤ or_else 0 o) (rows_of-settled before now most name) (within-named name (sizes_at db) (settled before now most) done.sized))

    -- so the result of a view is on each day what its query answers, with no more rows
    result : (d : ℤ) → IsRefDay d → (name : List ℕ) (view : Seen) → lookup (bytes_eq name) views ≡ Some view → relation_at row_order row_at view.result d ≡ ordinary_query d (named_rows (after d)) view.query
    result d day name view is =
        let live = found_view db views done.watched name view is in
        live.answer.law d day ∙ query_same d (rows_at (rows_of db) d) (named_rows (after d)) view.query (used_rows (name, view) live d day)

    result_size : (name : List ℕ) (view : Seen) → lookup (bytes_eq name) views ≡ Some view → length view.result ≤ query_size (named_sizes most) view.query
    result_size name view is =
        let live = found_view db views done.watched name view is in
        let more = query_more (sizes_of (rows_of db)) (named_sizes most) sizes_left view.query in
        omega (arith, live.answer.size, more)

    named : (d : ℤ) → IsRefDay d → names_at d (with_views views db) ≡ refreshed (λ query. ordinary_query d (named_rows (after d)) query) now (settled before now (after d))
    named d day =
        let answer : Query → List Fixed = λ query. ordinary_query d (named_rows (after d)) query in
        made-shown views (λ rel. relation_at row_order row_at rel d) answer (result d day) db ∙ done.alike d day answer

    next : (d : ℤ) → world_of_day d (effects ++ on_names stmt ∷ []) ≡ ordinary_statement d (world_of_day d effects) (on_names stmt)
    next d = fold-append (ordinary_statement d) (record { names = []; files = []; live = [] }) effects (on_names stmt ∷ [])

    next_sizes : sizes_after (effects ++ on_names stmt ∷ []) ≡ size_after (sizes_after effects) (on_names stmt)
    next_sizes = fold-append size_after (record { names = []; files = []; live = [] }) effects (on_names stmt ∷ [])

    -- the sizes, where the live names are those of the views
    steps : statement_sizes (live_of effects) sizes stmt ≡ refreshed (query_size (named_sizes most)) now (settled before now most)
    steps = λ i. refreshed (query_size (named_sizes most)) (same i) (settled (done.running.live i) (same i) most)
      where
        same : live_after (live_of effects) stmt.0 ≡ now
        same = ap (λ l. live_after l stmt.0) done.running.live ∙ sym done.live

    -- what is held then is what is held after the statement
    pub carried_out : IsRunning (watched db views) files (effects ++ on_names stmt ∷ [])
    carried_out = record {
      world = record {
        names = λ d day.
            named d day
            ∙ (λ i. refreshed (λ query. ordinary_query d (named_rows (after d)) query) (done.live i) (settled before (done.live i) (after d)))
            ∙ (λ i. statement_names d ((sym done.running.live ∙ sym (live_on_day d effects)) i) (done.running.world.names d day i) stmt)
            ∙ sym (ap (λ w. w.names) (next d));
        saved = λ d day. done.running.world.saved d day ∙ sym (ap (λ w. w.files) (next d));
        sizes = subst (λ s. AreWithin (sizes_at (with_views views db)) s.names) (sym next_sizes)
            (subst (AreWithin (sizes_at (with_views views db))) (sym steps)
            (within-shown views (query_size (named_sizes most)) result_size db (settled before now most) done.sized));
        saved_sizes = subst (λ s. AreWithin (sizes_at files) s.files) (sym next_sizes) done.running.world.saved_sizes;
      };
      live = ap (λ s. s.live) next_sizes ∙ ap (λ l. live_after l stmt.0) done.running.live ∙ sym done.live;
    }

  -- and so it is where no live result comes or goes
  pub carried_on : IsRunning old files effects → AreLiveViews db views → now ≡ before → live_after before stmt.0 ≡ before
      → ((d : ℤ) → IsRefDay d → (f : Query → List Fixed) → refreshed f before (names_at d db) ≡ refreshed f before (after d))
      → AreWithin (sizes_at db) most → IsRunning (watched db views) files (effects ++ on_names stmt ∷ [])
  carried_on running all same stays alike sized = carried_out (record {
    running = running;
    watched = all;
    live = same ∙ sym stays;
    alike = λ d day f.
        subst (λ l. refreshed f l (names_at d db) ≡ refreshed f l (settled before l (after d))) (sym same)
        (alike d day f ∙ ap (refreshed f before) (sym (settled-same before (after d))));
    sized = subst (λ l. AreWithin (sizes_at db) (settled before l most)) (sym same) (subst (AreWithin (sizes_at db)) (sym (settled-same before most)) sized);
  })
