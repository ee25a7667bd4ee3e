-- A query asks the names that it uses alone: so an answer over tables is one over others where the names that it uses have the same.
use Rattle.std.proofs.Common.{◌≡◌, ◌≤◌, ◌||◌, ◌&&◌, ◌*◌, ℕ, ℤ, Bool, true, List, [], ◌∷◌, map, filter, fold, length, slice_index_or, refl, sym, ap, ◌∙◌, subst}
use Rattle.std.specs.Cmp.Lexicographic.{nat_list_eq_equiv}
use Rattle.std.specs.List.{list_all, list_any}
use Rattle.std.specs.Str.{bytes_eq}
use Rattle.std.proofs.lemmas.Bool.{or_left, or_right}
use Rattle.std.proofs.lemmas.List.Folds.{list_any_at}
use Rattle.og_base.specs.Set.{set_of}
use Rattle.og_value.specs.Order.{row_order}
use Rattle.og_query.specs.Combinations.{combinations}
use Rattle.og_query.specs.Conditions.{truth}
use Rattle.og_query.specs.Fits.{Schemas, IsFitCore, IsFitQuery, table_columns_of, tables_of}
use Rattle.og_query.specs.Queries.{Fixed, Named, image, meets, core_rows, combined, ordinary_query}
use Rattle.og_query.specs.Sizes.{Sizes, core_size, combined_size, query_size}
use Rattle.og_query.specs.declared.query.Core.{Core}
use Rattle.og_query.specs.declared.query.From1.{From1}
use Rattle.og_query.specs.declared.query.Query.{Query}
use Rattle.og_query.specs.declared.query.Rest.{Rest}
use Rattle.og_query.specs.declared.query.Semi.{Semi}
use Rattle.og_exec.specs.Tables.{rows_at, sizes_of}
use Rattle.og_db.specs.Database.{Relation}
use Rattle.og_db.specs.Held.{Held, known_of, rows_of}
use Rattle.og_db.specs.Live.{core_uses, uses}
use Rattle.og_view.specs.Views.{IsAnswerOver}

-- whether some table of FROM has that name, and whether that of some EXISTS does
abbrev from_uses : List From1 → List ℕ → Bool
from_uses tables name = list_any (λ table. bytes_eq name table.name) tables

abbrev semis_use : List Semi → List ℕ → Bool
semis_use semis name = list_any (λ semi. bytes_eq name semi.table.name) semis

-- and whether some table of further cores does
abbrev rest_uses : List Rest → List ℕ → Bool
rest_uses rests name = list_any (λ rest. core_uses rest.core name) rests

-- the first one is used
first_used : (table : From1) (tables : List From1) → from_uses (table ∷ tables) table.name ≡ true
first_used table tables = or_left (bytes_eq table.name table.name) (from_uses tables table.name) (nat_list_eq_equiv.refl table.name)

first_semi : (semi : Semi) (semis : List Semi) → semis_use (semi ∷ semis) semi.table.name ≡ true
first_semi semi semis = or_left (bytes_eq semi.table.name semi.table.name) (semis_use semis semi.table.name) (nat_list_eq_equiv.refl semi.table.name)

-- the same of each name that is used
abbrev pub AreSame : {A : Type 0} → (List ℕ → Bool) → (List ℕ → A) → (List ℕ → A) → Type 0
AreSame used a b = (name : List ℕ) → used name ≡ true → a name ≡ b name

module _ {A : Type 0} (a b : List ℕ → A) where
  -- of tables
  tables_same : (tables : List From1) → AreSame (from_uses tables) a b → map (λ t. a t.name) tables ≡ map (λ t. b t.name) tables
  tables_same [] same = refl
  tables_same (table ∷ tables) same = λ i. same table.name (first_used table tables) i ∷ tables_same tables (λ name used. same name (or_right (bytes_eq name table.name) (from_uses tables name) used)) i

  -- of the first core, and of the others
  first_same : (first : Core) (rests : List Rest) → AreSame (λ name. core_uses first name || rest_uses rests name) a b → AreSame (core_uses first) a b
  first_same first rests same name used = same name (or_left (core_uses first name) (rest_uses rests name) used)

  others_same : (first : Core) (rests : List Rest) → AreSame (λ name. core_uses first name || rest_uses rests name) a b → AreSame (rest_uses rests) a b
  others_same first rests same name used = same name (or_right (core_uses first name) (rest_uses rests name) used)

  -- of a core's tables in FROM
  from_same : (core : Core) → AreSame (core_uses core) a b → AreSame (from_uses core.tables) a b
  from_same core same name used = same name (or_left (from_uses core.tables name) (semis_use core.semis name) used)

module _ (d : ℤ) (rows others : Named) where
  -- a row meets the same conditions of EXISTS
  meets_same : (row : Fixed) (semis : List Semi) → AreSame (semis_use semis) rows others → list_all (meets d rows row) semis ≡ list_all (meets d others row) semis
  meets_same row [] same = refl
  meets_same row (semi ∷ semis) same =
      λ i. one (same semi.table.name (first_semi semi semis) i) && meets_same row semis (λ name used. same name (or_right (bytes_eq name semi.table.name) (semis_use semis name) used)) i
    where
      one : List Fixed → Bool
      one table = meets d (λ name. table) row semi

  -- a core
  core_same : (core : Core) → AreSame (core_uses core) rows others → core_rows d rows core ≡ core_rows d others core
  core_same core same = λ i. set_of row_order (map (image d core.items) (filter (λ row. truth d row core.cond && met row i) (combinations (tables_same rows others core.tables (from_same rows others core same) i))))
    where
      met : (row : Fixed) → list_all (meets d rows row) core.semis ≡ list_all (meets d others row) core.semis
      met row = meets_same row core.semis (λ name used. same name (or_right (from_uses core.tables name) (semis_use core.semis name) used))

  rests_same : (rests : List Rest) (xs ys : List Fixed) → xs ≡ ys → AreSame (rest_uses rests) rows others
      → fold (λ answer rest. combined rest.op answer (core_rows d rows rest.core)) xs rests ≡ fold (λ answer rest. combined rest.op answer (core_rows d others rest.core)) ys rests
  rests_same [] xs ys e same = e
  rests_same (rest ∷ rests) xs ys e same =
      rests_same rests (combined rest.op xs (core_rows d rows rest.core)) (combined rest.op ys (core_rows d others rest.core))
      (λ i. combined rest.op (e i) (core_same rest.core (first_same rows others rest.core rests same) i)) (others_same rows others rest.core rests same)

  -- the answer
  pub query_same : (query : Query) → AreSame (uses query) rows others → ordinary_query d rows query ≡ ordinary_query d others query
  query_same query same =
      rests_same query.rest (core_rows d rows query.first) (core_rows d others query.first)
      (core_same query.first (first_same rows others query.first query.rest same)) (others_same rows others query.first query.rest same)

module _ (a b : Sizes) where
  core_size_same : (tables : List From1) (m n : ℕ) → m ≡ n → AreSame (from_uses tables) a b
      → fold (λ size table. size * a table.name) m tables ≡ fold (λ size table. size * b table.name) n tables
  core_size_same [] m n e same = e
  core_size_same (table ∷ tables) m n e same =
      core_size_same tables (m * a table.name) (n * b table.name) (λ i. e i * same table.name (first_used table tables) i)
      (λ name used. same name (or_right (bytes_eq name table.name) (from_uses tables name) used))

  rests_size_same : (rests : List Rest) (m n : ℕ) → m ≡ n → AreSame (rest_uses rests) a b
      → fold (λ size rest. combined_size rest.op size (core_size a rest.core)) m rests ≡ fold (λ size rest. combined_size rest.op size (core_size b rest.core)) n rests
  rests_size_same [] m n e same = e
  rests_size_same (rest ∷ rests) m n e same =
      rests_size_same rests (combined_size rest.op m (core_size a rest.core)) (combined_size rest.op n (core_size b rest.core))
      (λ i. combined_size rest.op (e i) (core_size_same rest.core.tables 1 1 refl (from_same a b rest.core (first_same a b rest.core rests same)) i)) (others_same a b rest.core rests same)

  -- the size
  pub size_same : (query : Query) → AreSame (uses query) a b → query_size a query ≡ query_size b query
  size_same query same =
      rests_size_same query.rest (core_size a query.first) (core_size b query.first)
      (core_size_same query.first.tables 1 1 refl (from_same a b query.first (first_same a b query.first query.rest same))) (others_same a b query.first query.rest same)

module _ (a b : Schemas) where
  -- a core fits where the names that it uses have the same columns
  core_fits_same : (core : Core) → AreSame (core_uses core) a b → IsFitCore a core → IsFitCore b core
  core_fits_same core same fit = record {
    some = fit.some;
    tables = λ k d below.
        let name = (slice_index_or core.tables k d).name in
        let used = list_any_at (λ table. bytes_eq name table.name) core.tables k d below (nat_list_eq_equiv.refl name) in
        sym (same name (or_left _ (semis_use core.semis name) used)) ∙ fit.tables k d below;
    cond = fit.cond;
    semis = λ k d below.
        let name = (slice_index_or core.semis k d).table.name in
        let used = list_any_at (λ semi. bytes_eq name semi.table.name) core.semis k d below (nat_list_eq_equiv.refl name) in
        record { table = sym (same name (or_right (from_uses core.tables name) _ used)) ∙ (fit.semis k d below).table; cond = (fit.semis k d below).cond };
    items = fit.items;
  }

  -- and so does a query
  pub fits_same : (query : Query) → AreSame (uses query) a b → IsFitQuery a query → IsFitQuery b query
  fits_same query same fit = record {
    first = core_fits_same query.first (first_same a b query.first query.rest same) fit.first;
    rest = λ k d below.
        let rest = slice_index_or query.rest k d in
        record {
          core = core_fits_same rest.core (λ name used. same name (or_right (core_uses query.first name) _ (list_any_at (λ rest. core_uses rest.core name) query.rest k d below used))) (fit.rest k d below).core;
          kinds = (fit.rest k d below).kinds;
        };
  }

-- an answer over tables is one over others, where the names that the query uses are known as the same, and have the same rows and as many
pub answer-over : (old new : List (Held Relation)) (query : Query) (rel : Relation) → AreSame (uses query) (known_of old) (known_of new)
    → ((d : ℤ) → AreSame (uses query) (rows_at (rows_of old) d) (rows_at (rows_of new) d)) → AreSame (uses query) (sizes_of (rows_of old)) (sizes_of (rows_of new))
    → IsAnswerOver old query rel → IsAnswerOver new query rel
answer-over old new query rel known rows sizes answer = record {
  live = answer.live;
  fits = fits_same (tables_of (known_of old)) (tables_of (known_of new)) query (λ name used. ap table_columns_of (known name used)) answer.fits;
  law = λ d day. answer.law d day ∙ query_same d (rows_at (rows_of old) d) (rows_at (rows_of new) d) query (rows d);
  size = subst (λ most. length rel ≤ most) (size_same (sizes_of (rows_of old)) (sizes_of (rows_of new)) query sizes) answer.size;
  kinds = answer.kinds;
}
