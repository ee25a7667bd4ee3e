-- Answers over named relations, and what an UPDATE changes of them.
use Rattle.std.proofs.Common.{◌≡◌, ◌≤◌, ℕ, ℤ, true, List, [], Option, Some, None, length, refl, sym, ap, ◌∙◌, subst}
use Rattle.std.specs.List.{All}
use Rattle.std.specs.Option.{option_map}
use Rattle.og_value.specs.Order.{row_order}
use Rattle.og_value.specs.Values.{row_at}
use Rattle.og_value.specs.declared.kind.What.TheVariants as what
use Rattle.og_value.specs.declared.schema.Column.{Column}
use Rattle.og_rel.specs.Relations.{relation_at}
use Rattle.og_query.specs.Fits.{Known, IsFit, IsFitAssign, table_columns_of, tables_of}
use Rattle.og_query.specs.declared.condition.Cond.{Cond}
use Rattle.og_query.specs.declared.query.Query.{Query}
use Rattle.og_query.specs.declared.typed.Assign.{Assign}
use Rattle.og_query.specs.declared.typed.Typed.TheVariants as t
use Rattle.og_exec.specs.Tables.{rows_at, rows_or_none, size_or_none, sizes_of}
use Rattle.og_db.specs.Database.{Relation, names_at}
use Rattle.og_db.specs.Held.{Held, described, found, known_of, rows_of}
use Rattle.og_db.specs.Live.{uses}
use Rattle.og_db.specs.Runs.{sizes_at}
use Rattle.og_db.specs.Statements.{or_else, named_rows, named_sizes}
use Rattle.og_db.proofs.WorldLemmas.{named-made_of}
use Rattle.og_view.specs.Views.{IsAnswerOver}
use Rattle.og_view.proofs.BaseLemmas.{table_known}
use Rattle.og_view.proofs.UsedLemmas.{query_same, size_same}
use Rattle.og_session.proofs.QueryLemmas.{fits_same}

-- the rows of a day of each name are those of the world of that day
pub rows_at-world : (d : ℤ) (db : List (Held Relation)) → rows_at (rows_of db) d ≡ named_rows (names_at d db)
rows_at-world d db = λ i name. (same (rows_of db name) ∙ sym (named-made_of (λ rel. relation_at row_order row_at rel d) [] db name)) i
  where
    same : (o : Option Relation) → rows_or_none o d ≡ or_else [] (option_map (λ rel. relation_at row_order row_at rel d) o)
    same None = refl
    same (Some rel) = refl

-- and so are the sizes of the names
pub sizes_of-names : (db : List (Held Relation)) → sizes_of (rows_of db) ≡ named_sizes (sizes_at db)
sizes_of-names db = λ i name. (same (rows_of db name) ∙ sym (named-made_of length 0 db name)) i
  where
    same : (o : Option Relation) → size_or_none o ≡ or_else 0 (option_map length o)
    same None = refl
    same (Some rel) = refl

-- the answer of a query is its answer over others, where they hold the same under each name that it uses
pub answer_over : (old new : List (Held Relation)) (query : Query) (rel : Relation) → IsAnswerOver old query rel → ((name : List ℕ) → uses query name ≡ true → found new name ≡ found old name) → IsAnswerOver new query rel
answer_over old new query rel is same = record {
  live = is.live;
  fits = fits_same (tables_of (known_of old)) (tables_of (known_of new)) query (λ name used. ap (λ o. table_columns_of (option_map described o)) (sym (same name used))) is.fits;
  law = λ d day. is.law d day ∙ query_same d (rows_at (rows_of old) d) (rows_at (rows_of new) d) query (λ name used. ap (λ o. rows_or_none (option_map (λ h. h.rows) o) d) (sym (same name used)));
  size = subst (λ n. length rel ≤ n)
      (size_same (sizes_of (rows_of old)) (sizes_of (rows_of new)) query (λ name used. ap (λ o. size_or_none (option_map (λ h. h.rows) o)) (sym (same name used)))) is.size;
  kinds = is.kinds;
}

-- the table of an UPDATE that fits, and its assignments
pub update_fits : (known : Known) (name : List ℕ) (sets : List Assign) (cond : Cond) → IsFit known (t.Update name sets cond)
    → (columns : List Column) × (known name ≡ Some (what.Table, columns)) × All (IsFitAssign columns) sets
update_fits known name sets cond (columns, is, fit, apart, cond_fits) = (columns, table_known (known name) columns is, fit)
