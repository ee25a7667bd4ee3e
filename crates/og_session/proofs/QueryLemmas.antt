-- A query asks the names that it uses alone.
use Rattle.std.proofs.Common.{◌≡◌, ◌∙◌, ℕ, Bool, true, false, List, Some, length, slice_index_or, refl, sym, ap, true≢false}
use Rattle.std.specs.Cmp.Lexicographic.{nat_list_eq_equiv, same_text}
use Rattle.std.specs.List.{list_any}
use Rattle.std.specs.Str.{bytes_eq}
use Rattle.std.proofs.lemmas.Bool.{or_left, or_right}
use Rattle.std.proofs.lemmas.List.Folds.{list_any_at}
use Rattle.og_value.specs.declared.kind.What.TheVariants as what
use Rattle.og_value.specs.declared.schema.Column.{Column}
use Rattle.og_query.specs.Fits.{Known, Schemas, tables_of, IsFitCore, IsFitQuery}
use Rattle.og_query.specs.declared.query.Core.{Core}
use Rattle.og_query.specs.declared.query.Query.{Query}
use Rattle.og_db.specs.Live.{core_uses, uses}
use Rattle.og_view.proofs.BaseLemmas.{table_known}
use Rattle.og_view.proofs.UsedLemmas.{AreSame}
use Rattle.og_view.proofs.ViewLemmas.{used_has_columns}

module _ (a b : Schemas) where
  -- a core fits others, among which the names that it uses have the same columns
  core_fits_same : (core : Core) → AreSame (core_uses core) a b → IsFitCore a core → IsFitCore b core
  core_fits_same core same fit = record {
    some = fit.some;
    tables = λ k d below.
        let name = (slice_index_or core.tables k d).name in
        let used = list_any_at (λ table. bytes_eq name table.name) core.tables k d below (nat_list_eq_equiv.refl name) in
        sym (same name (or_left _ (list_any (λ semi. bytes_eq name semi.table.name) core.semis) used)) ∙ fit.tables k d below;
    cond = fit.cond;
    semis = λ k d below.
        let name = (slice_index_or core.semis k d).table.name in
        let used = list_any_at (λ semi. bytes_eq name semi.table.name) core.semis k d below (nat_list_eq_equiv.refl name) in
        record { table = sym (same name (or_right (list_any (λ table. bytes_eq name table.name) core.tables) _ used)) ∙ (fit.semis k d below).table; cond = (fit.semis k d below).cond };
    items = fit.items;
  }

  -- and so does a query
  pub fits_same : (query : Query) → AreSame (uses query) a b → IsFitQuery a query → IsFitQuery b query
  fits_same query same fit = record {
    first = core_fits_same query.first (λ name used. same name (or_left (core_uses query.first name) _ used)) fit.first;
    rest = λ k d below.
        let rest = slice_index_or query.rest k d in
        record {
          core = core_fits_same rest.core
              (λ name used. same name (or_right (core_uses query.first name) _ (list_any_at (λ rest. core_uses rest.core name) query.rest k d below used))) (fit.rest k d below).core;
          kinds = (fit.rest k d below).kinds;
        };
  }

-- a name that the query of a live result uses is a table
pub used_table : (known : Known) (query : Query) → IsFitQuery (tables_of known) query → (name : List ℕ) → uses query name ≡ true → (columns : List Column) × (known name ≡ Some (what.Table, columns))
used_table known query fit name used =
    let has = used_has_columns (tables_of known) name query fit used in
    (has.0, table_known (known name) has.0 has.1)

-- where one name is not used, one that is used is another
pub used_differs : (query : Query) (free name : List ℕ) → uses query free ≡ false → uses query name ≡ true → bytes_eq free name ≡ false
used_differs query free name unused used = at (bytes_eq free name) refl
  where
    at : (b : Bool) → bytes_eq free name ≡ b → b ≡ false
    at true is = absurd (true≢false (sym used ∙ ap (uses query) (sym (same_text free name (sym is))) ∙ unused))
    at false is = refl
