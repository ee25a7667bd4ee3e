-- The query of a live result is the set of the rows of its cores.
use Rattle.std.proofs.Common.{◌≡◌, ◌++◌, ℤ, List, [], ◌∷◌, fold, sym, ap, ◌∙◌}
use Rattle.std.specs.List.{AllByRecursion, flat_map}
use Rattle.std.proofs.lemmas.List.{append_assoc, append-nil}
use Rattle.std.proofs.lemmas.List.Elements.{recursion_from_All}
use Rattle.og_base.specs.Set.{set_of}
use Rattle.og_base.proofs.SetLemmas.{set_of-append, set_of-rising}
use Rattle.og_value.specs.Order.{row_order}
use Rattle.og_query.specs.Queries.{Fixed, Named, combined, core_rows, ordinary_query}
use Rattle.og_query.specs.declared.query.Query.{Query}
use Rattle.og_query.specs.declared.query.Rest.{Rest}
use Rattle.og_query.proofs.QueryLemmas.{answer_rises, rows_ordered}
use Rattle.og_view.specs.Views.{IsLiveQuery, IsLiveRest}

module _ (d : ℤ) (rows : Named) where
  -- the rows of further cores, one after the other
  abbrev of_rests : List Rest → List Fixed
  of_rests rests = flat_map (λ rest. core_rows d rows rest.core) rests

  -- cores that are added to a set of rows by UNION
  added : (rests : List Rest) (answer : List Fixed) → AllByRecursion IsLiveRest rests
      → set_of row_order (fold (λ answer rest. combined rest.op answer (core_rows d rows rest.core)) answer rests) ≡ set_of row_order (answer ++ of_rests rests)
  added [] answer live = ap (set_of row_order) (sym (append-nil answer))
  added (rest ∷ rests) answer live =
      added rests (combined rest.op answer (core_rows d rows rest.core)) live.1
      ∙ ap (λ o. set_of row_order (combined o answer (core_rows d rows rest.core) ++ of_rests rests)) live.0.0
      ∙ set_of-append rows_ordered (answer ++ core_rows d rows rest.core) (of_rests rests)
      ∙ ap (set_of row_order) (append_assoc answer (core_rows d rows rest.core) (of_rests rests))

  -- the rows of the query of a live result are those of its cores
  pub ordinary_query-live : (query : Query) → IsLiveQuery query → ordinary_query d rows query ≡ set_of row_order (core_rows d rows query.first ++ of_rests query.rest)
  ordinary_query-live query live =
      sym (set_of-rising rows_ordered (ordinary_query d rows query) (answer_rises d rows query))
      ∙ added query.rest (core_rows d rows query.first) (recursion_from_All IsLiveRest query.rest live.rest)
