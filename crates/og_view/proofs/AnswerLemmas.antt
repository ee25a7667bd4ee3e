-- Queries over tables whose rows fit: that the rows of their answers fit too.
use Rattle.std.proofs.Common.{◌≡◌, ◌++◌, ◌≤◌, ℤ, not, List, [], ◌∷◌, Some, length, map, filter, fold, refl, sym, ap, ap₂, ◌∙◌, subst}
use Rattle.std.specs.List.{All, AllByRecursion, flat_map}
use Rattle.std.specs.List.Sorted.{IsPermutation}
use Rattle.std.proofs.lemmas.List.{map-append}
use Rattle.std.proofs.lemmas.List.Elements.{All-append, All-cons, All-filter, All-map, All-nil, All-weaker, recursion_from_All}
use Rattle.std.proofs.lemmas.List.Sorted.{All-permutation, IsPermutation-sym, length_permutation}
use Rattle.og_base.specs.Calendar.{IsRefDay}
use Rattle.og_base.proofs.SetLemmas.{All-set_of}
use Rattle.og_value.specs.Order.{row_order}
use Rattle.og_value.specs.Values.{row_at}
use Rattle.og_value.specs.declared.kind.Kind.{Kind}
use Rattle.og_value.specs.declared.schema.Column.{Column}
use Rattle.og_value.specs.declared.term.SetOp.{SetOp}
use Rattle.og_value.specs.declared.term.SetOp.TheVariants as op
use Rattle.og_rel.specs.Algebra.{is_in}
use Rattle.og_rel.specs.Relations.{HasDays, relation_at}
use Rattle.og_rel.proofs.PermutationLemmas.{relation_at-permutation}
use Rattle.og_query.specs.Combinations.{combinations}
use Rattle.og_query.specs.Fits.{Schemas, core_kinds, schemas_of, tables_of, IsAsNamed, IsFitCore, IsFitRest, IsFitRow, IsFitQuery}
use Rattle.og_query.specs.Kinds.{fixed_kind, kind_in, kinds_of}
use Rattle.og_query.specs.Queries.{Fixed, Named, image, is_kept, core_rows, combined, ordinary_query}
use Rattle.og_query.specs.declared.expression.Expr.{Expr}
use Rattle.og_query.specs.declared.query.Core.{Core}
use Rattle.og_query.specs.declared.query.From1.{From1}
use Rattle.og_query.specs.declared.query.Query.{Query}
use Rattle.og_query.specs.declared.query.Rest.{Rest}
use Rattle.og_query.specs.Sizes.{query_size}
use Rattle.og_query.proofs.KindLemmas.{value_has_its_kind}
use Rattle.og_query.proofs.QueryLemmas.{rows_ordered}
use Rattle.og_plan.specs.Premises.{FitRows, HaveFitRows, AllHaveFitRows}
use Rattle.og_exec.specs.Tables.{Relations, rows_at, rows_on, rows_or_none, sizes_of}
use Rattle.og_db.specs.Database.{Relation, HaveKinds}
use Rattle.og_db.specs.Fits.{IsFitFixed}
use Rattle.og_db.specs.Held.{Held, known_of, rows_of}
use Rattle.og_db.proofs.FitLemmas.{fit_from_days, fit_on_day}
use Rattle.og_view.specs.Tables.{AreHeld}
use Rattle.og_view.specs.Views.{IsAnswerOver, IsLiveQuery}
use Rattle.og_view.proofs.BaseLemmas.{tables_held}

module _ (schemas : Schemas) (named : Relations) (held : AreHeld schemas named)
    (on_a_day : (columns : List Column) (rel : Relation) → HaveKinds columns rel → (d : ℤ) → All (IsFitFixed columns) (relation_at row_order row_at rel d)) (d : ℤ) where
  -- the rows of a day of a table fit its columns
  pub named_fit : (table : From1) → IsAsNamed schemas table → FitRows table.schema (rows_at named d table.name)
  named_fit table is =
      let there = held table.name table.schema is in
      subst (λ o. FitRows table.schema (rows_or_none o d)) (sym there.1) (on_a_day table.schema there.0 there.2 d)

  -- and so do those of the tables of a query that fits
  pub tables_fit : (query : Query) → IsFitQuery schemas query → AllHaveFitRows (rows_at named d) query
  tables_fit query fits = (
    of_core query.first fits.first,
    All-weaker (IsFitRest schemas query.first) (λ rest. HaveFitRows (rows_at named d) rest.core) (λ rest r. of_core rest.core r.core) query.rest fits.rest,
  )
    where
      of_core : (core : Core) → IsFitCore schemas core → HaveFitRows (rows_at named d) core
      of_core core c = All-weaker (IsAsNamed schemas) (λ table. FitRows table.schema (rows_at named d table.name)) named_fit core.tables c.tables

-- a row of one day has values of these kinds
abbrev HasKinds : List Kind → Fixed → Type 0
HasKinds kinds row = map fixed_kind row ≡ kinds

-- each of some rows joined with each of others
module _ (P Q R : Fixed → Type 0) (joined : (x y : Fixed) → P x → Q y → R (x ++ y)) where
  all_joined : (xs ys : List Fixed) → AllByRecursion P xs → All Q ys → All R (flat_map (λ x. map (λ y. x ++ y) ys) xs)
  all_joined [] ys all others = All-nil R
  all_joined (x ∷ xs) ys all others =
      All-append R (map (λ y. x ++ y) ys) (flat_map (λ x. map (λ y. x ++ y) ys) xs)
      (All-map R (λ y. x ++ y) ys (All-weaker Q (λ y. R (x ++ y)) (λ y. joined x y all.0) ys others)) (all_joined xs ys all.1 others)

-- the combinations of rows that fit their tables have the kinds of all tables
combinations_fit : (rows : Named) (tables : List From1) → AllByRecursion (λ table. FitRows table.schema (rows table.name)) tables
    → All (HasKinds (flat_map (λ table. kinds_of table.schema) tables)) (combinations (map (λ table. rows table.name) tables))
combinations_fit rows [] fit = All-cons (HasKinds []) [] [] refl (All-nil (HasKinds []))
combinations_fit rows (table ∷ tables) fit =
    let more = flat_map (λ table. kinds_of table.schema) tables in
    all_joined (HasKinds (kinds_of table.schema)) (HasKinds more) (HasKinds (kinds_of table.schema ++ more)) (λ x y a b. map-append fixed_kind x y ∙ ap₂ (λ ks ls. ks ++ ls) a b)
    (rows table.name) (combinations (map (λ table. rows table.name) tables)) (recursion_from_All (HasKinds (kinds_of table.schema)) (rows table.name) fit.0) (combinations_fit rows tables fit.1)

-- the values of items that have these kinds
items_fit : (d : ℤ) (row : Fixed) (items : List Expr) (kinds : List Kind) → map (kind_in (map fixed_kind row)) items ≡ map (λ kind. Some kind) kinds → HasKinds kinds (image d items row)
items_fit d row [] [] e = refl
items_fit d row [] (kind ∷ kinds) e = cc
items_fit d row (item ∷ items) [] e = cc
items_fit d row (item ∷ items) (kind ∷ kinds) e =
    let first : kind_in (map fixed_kind row) item ≡ Some kind = cc e in
    let more : map (kind_in (map fixed_kind row)) items ≡ map (λ kind. Some kind) kinds = cc e in
    ap₂ (λ k ks. k ∷ ks) (value_has_its_kind d row item kind first) (items_fit d row items kinds more)

-- what holds of the rows of both answers holds of those of their combination
combined_keep : (P : Fixed → Type 0) (op : SetOp) (xs ys : List Fixed) → All P xs → All P ys → All P (combined op xs ys)
combined_keep P op.Union xs ys all others = All-set_of row_order P (xs ++ ys) (All-append P xs ys all others)
combined_keep P op.Except xs ys all others = All-filter (λ x. not (is_in row_order x ys)) P xs all
combined_keep P op.Intersect xs ys all others = All-filter (λ x. is_in row_order x ys) P xs all

module _ (d : ℤ) (rows : Named) (schemas : Schemas) where
  -- the rows of a core that fits, over rows that fit their tables, fit its columns
  core_fits : (core : Core) → IsFitCore schemas core → HaveFitRows rows core → All (HasKinds (kinds_of core.schema)) (core_rows d rows core)
  core_fits core fit tables =
      let all = combinations (map (λ table. rows table.name) core.tables) in
      let kept = filter (is_kept d rows core) all in
      All-set_of row_order (HasKinds (kinds_of core.schema)) (map (image d core.items) kept)
      (All-map (HasKinds (kinds_of core.schema)) (image d core.items) kept
      (All-weaker (HasKinds (core_kinds core)) (λ row. HasKinds (kinds_of core.schema) (image d core.items row))
      (λ row has. items_fit d row core.items (kinds_of core.schema) (ap (λ kinds. map (kind_in kinds) core.items) has ∙ fit.items)) kept
      (All-filter (is_kept d rows core) (HasKinds (core_kinds core)) all
      (combinations_fit rows core.tables (recursion_from_All (λ table. FitRows table.schema (rows table.name)) core.tables tables)))))

  -- and so do those of an answer with further cores
  rests_fit : (first : Core) (rests : List Rest) (answer : List Fixed) → AllByRecursion (IsFitRest schemas first) rests → AllByRecursion (λ rest. HaveFitRows rows rest.core) rests
      → All (HasKinds (kinds_of first.schema)) answer → All (HasKinds (kinds_of first.schema)) (fold (λ answer rest. combined rest.op answer (core_rows d rows rest.core)) answer rests)
  rests_fit first [] answer fit tables all = all
  rests_fit first (rest ∷ rests) answer fit tables all =
      rests_fit first rests (combined rest.op answer (core_rows d rows rest.core)) fit.1 tables.1
      (combined_keep (HasKinds (kinds_of first.schema)) rest.op answer (core_rows d rows rest.core) all
      (subst (λ kinds. All (HasKinds kinds) (core_rows d rows rest.core)) fit.0.kinds (core_fits rest.core fit.0.core tables.0)))

  -- the rows of an answer fit the columns of its first core
  pub answer_fits : (query : Query) → IsFitQuery schemas query → AllHaveFitRows rows query → FitRows query.first.schema (ordinary_query d rows query)
  answer_fits query fit tables =
      rests_fit query.first query.rest (core_rows d rows query.first) (recursion_from_All (IsFitRest schemas query.first) query.rest fit.rest)
      (recursion_from_All (λ rest. HaveFitRows rows rest.core) query.rest tables.1) (core_fits query.first fit.first tables.0)

-- rows that have days, and are on each day those of the query of a live result, are its answer where there are no more than its size
pub answer_of : (tables : List (Held Relation)) (query : Query) (rel : Relation) → IsLiveQuery query → IsFitQuery (tables_of (known_of tables)) query → AreHeld (schemas_of (known_of tables)) (rows_of tables)
    → ((d : ℤ) → IsRefDay d → ordinary_query d (rows_at (rows_of tables) d) query ≡ rows_on rel d) → length rel ≤ query_size (sizes_of (rows_of tables)) query → All (λ p. HasDays p.1) rel → IsAnswerOver tables query rel
answer_of tables query rel live fits held law size days = record {
  live = live;
  fits = fits;
  law = λ d day. sym (law d day);
  size = size;
  kinds = fit_from_days query.first.schema rel days (λ d day.
      subst (All (IsFitFixed query.first.schema)) (law d day)
      (answer_fits d (rows_at (rows_of tables) d) (tables_of (known_of tables)) query fits
      (tables_fit (tables_of (known_of tables)) (rows_of tables) (tables_held (known_of tables) (rows_of tables) held) fit_on_day d query fits)));
}

-- and so they are in another order
pub answer_moved : (tables : List (Held Relation)) (query : Query) (rel moved : Relation) → IsPermutation moved rel → IsAnswerOver tables query rel → IsAnswerOver tables query moved
answer_moved tables query rel moved is answer = record {
  live = answer.live;
  fits = answer.fits;
  law = λ d day. relation_at-permutation rows_ordered row_at moved rel d is ∙ answer.law d day;
  size = subst (λ n. n ≤ query_size (sizes_of (rows_of tables)) query) (length_permutation moved rel is) answer.size;
  kinds = All-permutation (λ p. IsFitRow query.first.schema p.0) rel moved (IsPermutation-sym moved rel is) answer.kinds;
}
