-- A result that has lost rows: what is left of it are its rows that do not pass tests which the lost ones pass, and those that are left and pass.
use Rattle.std.proofs.Common.{◌≡◌, ◌++◌, ◌||◌, ◌&&◌, ℕ, ℤ, Bool, true, false, not, List, [], ◌∷◌, filter, length, map, refl, sym, ap, ap₂, subst, ◌∙◌}
use Rattle.std.specs.List.{All, AllByRecursion, flat_map, list_any}
use Rattle.std.specs.List.Sorted.{IsStrictlySortedBy}
use Rattle.std.proofs.lemmas.List.{append_assoc}
use Rattle.std.proofs.lemmas.List.Elements.{filter-append, recursion_from_All}
use Rattle.std.proofs.lemmas.List.Folds.{list_any-append}
use Rattle.og_base.specs.Calendar.{IsRefDay}
use Rattle.og_base.specs.Ranges.{holds_day}
use Rattle.og_base.specs.Set.{set_of}
use Rattle.og_base.proofs.SetLemmas.{filter-set_of, set_of-rising}
use Rattle.og_base.proofs.SetMembers.{list_any-filter, list_any-set_of, list_any-set_of_append}
use Rattle.og_value.specs.Order.{row_order}
use Rattle.og_value.specs.Values.{row_at}
use Rattle.og_rel.specs.Relations.{others}
use Rattle.og_rel.proofs.AlgebraLemmas.{any_of_either, any_of_none, or_false, same_set_by_tests}
use Rattle.og_rel.proofs.PresentLemmas.{list_any-relation_at, relation_at-append}
use Rattle.og_join.proofs.PlaceTests.{list_any-known}
use Rattle.og_query.specs.Queries.{Fixed, core_rows, ordinary_query}
use Rattle.og_query.specs.declared.query.Core.{Core}
use Rattle.og_query.specs.declared.query.Query.{Query}
use Rattle.og_query.specs.declared.query.Rest.{Rest}
use Rattle.og_query.proofs.QueryLemmas.{answer_rises, rows_ordered}
use Rattle.og_exec.specs.Tables.{Relation, Relations, rows_at, rows_on}
use Rattle.og_view.specs.Again.{passing_rows}
use Rattle.og_db.specs.Held.{Held, rows_of}
use Rattle.og_rel.specs.Places.{ArePlaces, others_at, places}
use Rattle.og_rel.proofs.PlaceLemmas.{others-none, others-places, places-are}
use Rattle.og_view.specs.Changes.{IsChange}
use Rattle.og_view.specs.declared.change.Change.{Change}
use Rattle.og_view.specs.Placed.{AreGrown, cores_of, more_rows}
use Rattle.og_reduce.specs.Sieves.{Test, passes, row_passes}
use Rattle.og_view.specs.Views.{IsLiveQuery, IsLiveRest}
use Rattle.og_view.proofs.GrownLemmas.{core_rows-over}
use Rattle.og_view.proofs.InsertedLemmas.{answer-extended, answer-grown, answer-more, result-untouched}
use Rattle.og_view.proofs.LiveLemmas.{ordinary_query-live}
use Rattle.og_reduce.proofs.SieveLemmas.{passes-on_day}
use Rattle.og_view.proofs.SieveLemmas.{rows_on-filter}

-- rows are those of which a condition does not hold and those of which it does
any_parted : (holds p : Fixed → Bool) (rows : List Fixed) → list_any p rows ≡ list_any p (filter (λ row. not (holds row)) rows ++ filter holds rows)
any_parted holds p rows =
    (λ i. list_any (λ row. either (holds row) (p row) i) rows)
    ∙ any_of_either (λ row. not (holds row) && p row) (λ row. holds row && p row) rows
    ∙ sym (list_any-append p (filter (λ row. not (holds row)) rows) (filter holds rows)
    ∙ ap₂ (λ a b. a || b) (list_any-filter p (λ row. not (holds row)) rows) (list_any-filter p holds rows))
  where
    either : (b x : Bool) → x ≡ ((not b && x) || (b && x))
    either true x = refl
    either false true = refl
    either false false = refl

-- what passes is not among what does not
not_both : (present passing other : Bool) → passing ≡ true → (present && (not passing && other)) ≡ false
not_both true true other is = refl
not_both false passing other is = refl
not_both true false other is = cc is

module _ (d : ℤ) (tests : List Test) where
  module _ (result lost : Relation) (left rows : List Fixed) (parts : rows_on result d ≡ set_of row_order (left ++ rows)) (gone : rows_on lost d ≡ set_of row_order rows)
      (pass : All (λ p. row_passes tests p.0 ≡ true) lost) where
    -- no lost row is among them
    none_lost : (t : Fixed → Bool) → list_any (λ row. not (passes tests row) && t row) rows ≡ false
    none_lost t =
        sym (list_any-set_of rows_ordered.exact (λ row. not (passes tests row) && t row) rows)
        ∙ ap (list_any (λ row. not (passes tests row) && t row)) (sym gone)
        ∙ list_any-relation_at rows_ordered row_at (λ row. not (passes tests row) && t row) lost d
        ∙ list_any-known (λ p. row_passes tests p.0 ≡ true) _ (λ _. false)
        (λ p is. not_both (holds_day p.1 d) (passes tests (row_at p.0 d)) (t (row_at p.0 d)) (passes-on_day tests p.0 d ∙ is)) lost pass
        ∙ any_of_none lost

    -- so on a day they are those that are left and do not pass
    others_left : (t : Fixed → Bool) → list_any t (rows_on (others (row_passes tests) result) d) ≡ list_any t (filter (λ row. not (passes tests row)) left)
    others_left t =
        ap (list_any t) (rows_on-filter (λ row. not (row_passes tests row)) (λ row. not (passes tests row)) d (λ row. ap not (passes-on_day tests row d)) result
        ∙ ap (filter (λ row. not (passes tests row))) parts)
        ∙ list_any-filter t (λ row. not (passes tests row)) (set_of row_order (left ++ rows))
        ∙ list_any-set_of_append rows_ordered.exact (λ row. not (passes tests row) && t row) left rows
        ∙ ap (λ b. list_any (λ row. not (passes tests row) && t row) left || b) (none_lost t)
        ∙ or_false (list_any (λ row. not (passes tests row) && t row) left)
        ∙ sym (list_any-filter t (λ row. not (passes tests row)) left)

    module _ (rises : IsStrictlySortedBy row_order left) (again : Relation) (there : rows_on again d ≡ filter (passes tests) left) where
      -- with those that are left and pass they are what is left
      pub left-again : rows_on (others (row_passes tests) result ++ again) d ≡ left
      left-again =
          relation_at-append rows_ordered row_at (others (row_passes tests) result) again d
          ∙ same_set_by_tests rows_ordered _ left
          (λ t. list_any-append t (rows_on (others (row_passes tests) result) d) (rows_on again d)
          ∙ ap₂ (λ a b. a || b) (others_left t) (ap (list_any t) there)
          ∙ sym (list_any-append t (filter (λ row. not (passes tests row)) left) (filter (passes tests) left))
          ∙ sym (any_parted (passes tests) t left))
          ∙ set_of-rising rows_ordered left rises

      -- and with more rows these too
      pub left-again-more : (more : Relation) → rows_on (others (row_passes tests) result ++ (again ++ more)) d ≡ set_of row_order (left ++ rows_on more d)
      left-again-more more =
          ap (λ rel. rows_on rel d) (sym (append_assoc (others (row_passes tests) result) again more))
          ∙ relation_at-append rows_ordered row_at (others (row_passes tests) result ++ again) more d
          ∙ ap (λ rows. set_of row_order (rows ++ rows_on more d)) left-again

-- the rows of the cores of a live result that pass tests are those of its query that do
module _ (d : ℤ) (named : Relations) (tests : List Test) where
  passing_core : (core : Core) → core.semis ≡ [] → passing_rows d named tests core ≡ filter (passes tests) (core_rows d (rows_at named d) core)
  passing_core core none = ap (filter (passes tests)) (sym (core_rows-over d core (rows_at named d) none))

  passing_rests : (rests : List Rest) → AllByRecursion IsLiveRest rests
      → flat_map (passing_rows d named tests) (map (λ rest. rest.core) rests) ≡ filter (passes tests) (flat_map (λ rest. core_rows d (rows_at named d) rest.core) rests)
  passing_rests [] live = refl
  passing_rests (rest ∷ rests) live =
      ap₂ (λ xs ys. xs ++ ys) (passing_core rest.core live.0.1) (passing_rests rests live.1)
      ∙ sym (filter-append (passes tests) (core_rows d (rows_at named d) rest.core) (flat_map (λ rest. core_rows d (rows_at named d) rest.core) rests))

  pub passing_query : (query : Query) → IsLiveQuery query
      → set_of row_order (flat_map (passing_rows d named tests) (cores_of query)) ≡ filter (passes tests) (ordinary_query d (rows_at named d) query)
  passing_query query live =
      let rests = flat_map (λ rest. core_rows d (rows_at named d) rest.core) query.rest in
      ap (set_of row_order) (ap₂ (λ xs ys. xs ++ ys) (passing_core query.first live.first) (passing_rests query.rest (recursion_from_All IsLiveRest query.rest live.rest))
      ∙ sym (filter-append (passes tests) (core_rows d (rows_at named d) query.first) rests))
      ∙ sym (filter-set_of rows_ordered (passes tests) (core_rows d (rows_at named d) query.first ++ rests))
      ∙ ap (filter (passes tests)) (sym (ordinary_query-live d (rows_at named d) query live))

-- a result that loses rows by those that are gone of a table, and gets rows by those that are new of it
module _ (query : Query) (live : IsLiveQuery query) (old left after : List (Held Relation)) (name : List ℕ) (gone new : Relation)
    (shrinks : AreGrown (rows_of old) (rows_of left) name gone) (grows : AreGrown (rows_of after) (rows_of left) name new) (result lost added : Relation)
    (answer : (d : ℤ) → IsRefDay d → rows_on result d ≡ ordinary_query d (rows_at (rows_of old) d) query)
    (loses : (d : ℤ) → IsRefDay d → rows_on lost d ≡ set_of row_order (flat_map (more_rows d (rows_of old) name gone) (cores_of query)))
    (adds : (d : ℤ) → IsRefDay d → rows_on added d ≡ set_of row_order (flat_map (more_rows d (rows_of after) name new) (cores_of query))) (change : Change) where
  -- where none are lost those that are new come behind it
  pub change-extended : lost ≡ [] → change.at.items ≡ [] → change.rows ≡ added → IsChange after query result change
  change-extended none at rows = record {
    at = subst (λ at. ArePlaces at (length result)) (sym at) tt;
    law = λ d day.
        answer-extended query live left after name new grows result added d day
        (result-untouched query live left old name gone shrinks result lost (cores_of query) d day refl none (loses d day) (answer d day)) (adds d day)
        ∙ sym (relation_at-append rows_ordered row_at result added d)
        ∙ (λ i. rows_on ((sym (others-none result) ∙ ap (λ at. others_at at result) (sym at)) i ++ (sym rows) i) d);
  }

  module _ (tests : List Test) (again : Relation) (pass : All (λ p. row_passes tests p.0 ≡ true) lost)
      (there : (d : ℤ) → IsRefDay d → rows_on again d ≡ filter (passes tests) (ordinary_query d (rows_at (rows_of left) d) query)) where
    -- and else those that pass tests which the lost ones pass give place to those that are still there
    pub change-replaced : change.at.items ≡ places (λ p. row_passes tests p.0) result → change.rows ≡ again ++ added → IsChange after query result change
    change-replaced at rows = record {
      at = subst (λ at. ArePlaces at (length result)) (sym at) (places-are (λ p. row_passes tests p.0) result);
      law = λ d day.
          answer-more query live left after name new grows added d day (adds d day)
          ∙ sym (left-again-more d tests result lost (ordinary_query d (rows_at (rows_of left) d) query) (flat_map (more_rows d (rows_of old) name gone) (cores_of query))
          (answer d day ∙ answer-grown query live left old name gone shrinks d day) (loses d day) pass (answer_rises d (rows_at (rows_of left) d) query) again (there d day) added)
          ∙ (λ i. rows_on ((sym (others-places (λ p. row_passes tests p.0) result) ∙ ap (λ at. others_at at result) (sym at)) i ++ (sym rows) i) d);
    }
