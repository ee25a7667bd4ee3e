-- The query of a live result over tables of which one has more rows: its rows are those before, and those that its cores have by the new rows.
use Rattle.std.proofs.Common.{◌≡◌, ◌++◌, ◌||◌, ℕ, ℤ, Bool, List, [], ◌∷◌, map, refl, sym, ap, ap₂, ◌∙◌}
use Rattle.std.specs.List.{All, AllByRecursion, flat_map, list_any}
use Rattle.std.proofs.lemmas.List.{append-nil}
use Rattle.std.proofs.lemmas.List.Elements.{All-cons, All-map, All-weaker, recursion_from_All}
use Rattle.std.proofs.lemmas.List.Folds.{list_any-append}
use Rattle.og_base.specs.Calendar.{IsRefDay}
use Rattle.og_base.specs.Set.{set_of}
use Rattle.og_base.proofs.SetLemmas.{set_of-append_right, set_of-rising}
use Rattle.og_base.proofs.SetMembers.{list_any-set_of}
use Rattle.og_value.specs.Order.{row_order}
use Rattle.og_rel.proofs.AlgebraLemmas.{or_across, same_set_by_tests}
use Rattle.og_query.specs.Fits.{Schemas, IsFitCore, IsFitRest, IsFitQuery}
use Rattle.og_query.specs.Queries.{Fixed, Named, core_rows, ordinary_query}
use Rattle.og_query.specs.declared.query.Core.{Core}
use Rattle.og_query.specs.declared.query.Query.{Query}
use Rattle.og_query.specs.declared.query.Rest.{Rest}
use Rattle.og_query.proofs.QueryLemmas.{answer_rises, rows_ordered}
use Rattle.og_exec.specs.Tables.{rows_at, rows_on}
use Rattle.og_db.specs.Database.{Relation}
use Rattle.og_db.specs.Deltas.{IsAlike}
use Rattle.og_db.specs.Held.{Held, rows_of}
use Rattle.og_view.specs.Placed.{AreGrown, cores_of, gets, more_rows}
use Rattle.og_view.specs.Rows.{rows_over, turns}
use Rattle.og_view.specs.Views.{IsLiveQuery, IsLiveRest}
use Rattle.og_view.proofs.GrownLemmas.{core_rows-grown}
use Rattle.og_view.proofs.LiveLemmas.{ordinary_query-live}

-- the cores of a query that fits do
pub cores_fit : (schemas : Schemas) (query : Query) → IsFitQuery schemas query → All (IsFitCore schemas) (cores_of query)
cores_fit schemas query fit =
    All-cons (IsFitCore schemas) query.first (map (λ rest. rest.core) query.rest) fit.first
    (All-map (IsFitCore schemas) (λ rest. rest.core) query.rest (All-weaker (IsFitRest schemas query.first) (λ rest. IsFitCore schemas rest.core) (λ rest f. f.core) query.rest fit.rest))

module _ (d : ℤ) (old new more : Named) (inserted : (name : List ℕ) → IsAlike (new name) (old name ++ more name)) where
  -- the rows that a core has more
  abbrev more_of : Core → List Fixed
  more_of core = flat_map (rows_over d core) (turns (map (λ table. new table.name) core.tables) (map (λ table. more table.name) core.tables))

  -- a test of some row of a core after it
  any_core : (t : Fixed → Bool) (core : Core) → core.semis ≡ [] → list_any t (core_rows d new core) ≡ (list_any t (core_rows d old core) || list_any t (more_of core))
  any_core t core none =
      ap (list_any t) (core_rows-grown d core new old more none inserted)
      ∙ list_any-set_of rows_ordered.exact t (core_rows d old core ++ more_of core)
      ∙ list_any-append t (core_rows d old core) (more_of core)

  -- of some core
  any_rests : (t : Fixed → Bool) (rests : List Rest) → AllByRecursion IsLiveRest rests
      → list_any t (flat_map (λ rest. core_rows d new rest.core) rests) ≡ (list_any t (flat_map (λ rest. core_rows d old rest.core) rests) || list_any t (flat_map more_of (map (λ rest. rest.core) rests)))
  any_rests t [] live = refl
  any_rests t (rest ∷ rests) live =
      list_any-append t (core_rows d new rest.core) (flat_map (λ rest. core_rows d new rest.core) rests)
      ∙ ap₂ (λ a b. a || b) (any_core t rest.core live.0.1) (any_rests t rests live.1)
      ∙ or_across (list_any t (core_rows d old rest.core)) (list_any t (more_of rest.core)) (list_any t (flat_map (λ rest. core_rows d old rest.core) rests)) (list_any t (flat_map more_of (map (λ rest. rest.core) rests)))
      ∙ sym (ap₂ (λ a b. a || b) (list_any-append t (core_rows d old rest.core) (flat_map (λ rest. core_rows d old rest.core) rests))
      (list_any-append t (more_of rest.core) (flat_map more_of (map (λ rest. rest.core) rests))))

  -- the rows of the query after it
  pub query_rows-inserted : (query : Query) → IsLiveQuery query → ordinary_query d new query ≡ set_of row_order (ordinary_query d old query ++ flat_map more_of (cores_of query))
  query_rows-inserted query live =
      ordinary_query-live d new query live
      ∙ same_set_by_tests rows_ordered _ _
      (λ t. list_any-append t (core_rows d new query.first) (flat_map (λ rest. core_rows d new rest.core) query.rest)
      ∙ ap₂ (λ a b. a || b) (any_core t query.first live.first) (any_rests t query.rest (recursion_from_All IsLiveRest query.rest live.rest))
      ∙ or_across (list_any t (core_rows d old query.first)) (list_any t (more_of query.first)) (list_any t olds) (list_any t (flat_map more_of (map (λ rest. rest.core) query.rest)))
      ∙ sym (list_any-append t (ordinary_query d old query) (flat_map more_of (cores_of query))
      ∙ ap₂ (λ a b. a || b)
      (ap (list_any t) (ordinary_query-live d old query live) ∙ list_any-set_of rows_ordered.exact t (core_rows d old query.first ++ olds) ∙ list_any-append t (core_rows d old query.first) olds)
      (list_any-append t (more_of query.first) (flat_map more_of (map (λ rest. rest.core) query.rest)))))
    where
      olds : List Fixed
      olds = flat_map (λ rest. core_rows d old rest.core) query.rest

module _ (query : Query) (live : IsLiveQuery query) (before after : List (Held Relation)) (name : List ℕ) (new : Relation) where
  -- the answer after it is that before with the rows that the cores have more
  pub answer-grown : AreGrown (rows_of after) (rows_of before) name new → (d : ℤ) → IsRefDay d
      → ordinary_query d (rows_at (rows_of after) d) query ≡ set_of row_order (ordinary_query d (rows_at (rows_of before) d) query ++ flat_map (more_rows d (rows_of after) name new) (cores_of query))
  answer-grown grows d day = query_rows-inserted d (rows_at (rows_of before) d) (rows_at (rows_of after) d) (λ other. rows_on (gets name new other) d) (grows d day) query live

  -- or of a relation of them
  pub answer-more : AreGrown (rows_of after) (rows_of before) name new → (more : Relation) (d : ℤ) → IsRefDay d
      → rows_on more d ≡ set_of row_order (flat_map (more_rows d (rows_of after) name new) (cores_of query))
      → ordinary_query d (rows_at (rows_of after) d) query ≡ set_of row_order (ordinary_query d (rows_at (rows_of before) d) query ++ rows_on more d)
  answer-more grows more d day add =
      answer-grown grows d day
      ∙ sym (set_of-append_right rows_ordered (ordinary_query d (rows_at (rows_of before) d) query) (flat_map (more_rows d (rows_of after) name new) (cores_of query)))
      ∙ sym (ap (λ rows. set_of row_order (ordinary_query d (rows_at (rows_of before) d) query ++ rows)) add)

  -- and so of the result and of that relation
  pub answer-extended : AreGrown (rows_of after) (rows_of before) name new → (result more : Relation) (d : ℤ) → IsRefDay d → rows_on result d ≡ ordinary_query d (rows_at (rows_of before) d) query
      → rows_on more d ≡ set_of row_order (flat_map (more_rows d (rows_of after) name new) (cores_of query))
      → ordinary_query d (rows_at (rows_of after) d) query ≡ set_of row_order (rows_on result d ++ rows_on more d)
  answer-extended grows result more d day old add = answer-more grows more d day add ∙ ap (λ rows. set_of row_order (rows ++ rows_on more d)) (sym old)

  -- where the cores have no more rows the answer is what it was
  pub answer-untouched : AreGrown (rows_of after) (rows_of before) name new → (d : ℤ) → IsRefDay d → [] ≡ set_of row_order (flat_map (more_rows d (rows_of after) name new) (cores_of query))
      → ordinary_query d (rows_at (rows_of after) d) query ≡ ordinary_query d (rows_at (rows_of before) d) query
  answer-untouched grows d day none =
      let answer = ordinary_query d (rows_at (rows_of before) d) query in
      answer-grown grows d day
      ∙ sym (set_of-append_right rows_ordered answer (flat_map (more_rows d (rows_of after) name new) (cores_of query)))
      ∙ ap (λ rows. set_of row_order (answer ++ rows)) (sym none)
      ∙ ap (set_of row_order) (append-nil answer)
      ∙ set_of-rising rows_ordered answer (answer_rises d (rows_at (rows_of before) d) query)

  -- so a result stays, where what the cores have more is a relation without rows
  pub result-untouched : AreGrown (rows_of after) (rows_of before) name new → (result more : Relation) (cores : List Core) (d : ℤ) → IsRefDay d → cores ≡ cores_of query → more ≡ []
      → rows_on more d ≡ set_of row_order (flat_map (more_rows d (rows_of after) name new) cores) → rows_on result d ≡ ordinary_query d (rows_at (rows_of after) d) query
      → rows_on result d ≡ ordinary_query d (rows_at (rows_of before) d) query
  result-untouched grows result more cores d day all none add is =
      is ∙ answer-untouched grows d day (ap (λ rel. rows_on rel d) (sym none) ∙ add ∙ ap (λ cs. set_of row_order (flat_map (more_rows d (rows_of after) name new) cs)) all)
