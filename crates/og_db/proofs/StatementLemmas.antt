-- What statements make of a relation, and of its rows on a day.
use Rattle.std.proofs.Common.{◌≡◌, ◌++◌, ◌≤◌, ◌+◌, ℤ, Bool, true, false, List, [], ◌∷◌, Some, fold, length, map, filter, set, if◌then◌else◌, refl, sym, ap, ap₂, ◌∙◌, subst, arith}
use Rattle.std.specs.Cmp.Lexicographic.{slice_cmp}
use Rattle.std.specs.List.{All, AllByRecursion}
use Rattle.std.proofs.lemmas.List.{length-append, length-map, map-set, set-get_or}
use Rattle.std.proofs.lemmas.List.Elements.{All-filter, All-map, All-weaker, recursion_from_All}
use Rattle.std.proofs.lemmas.Option.{get_or_from_slice_get}
use Rattle.og_base.specs.Calendar.{IsRefDay}
use Rattle.og_base.specs.Ranges.{Range}
use Rattle.og_base.specs.Set.{set_of}
use Rattle.og_base.proofs.SetLemmas.{All-set_of, set_of-append_right}
use Rattle.og_base.proofs.SetOpLemmas.{holds_day-all}
use Rattle.og_value.specs.Exact.{values_ordered}
use Rattle.og_value.specs.Order.{row_order}
use Rattle.og_value.specs.Values.{row_at}
use Rattle.og_value.specs.contracts.value.FixedValueOrd.TheImpl as derived
use Rattle.og_value.specs.declared.schema.Column.{Column}
use Rattle.og_value.specs.declared.value.Value.{Value}
use Rattle.og_rel.specs.Relations.{present, relation_at}
use Rattle.og_rel.proofs.PresentLemmas.{relation_at-append}
use Rattle.og_query.specs.Expressions.{meaning}
use Rattle.og_query.specs.Fits.{IsFitRow, IsFitAssign}
use Rattle.og_query.specs.Kinds.{fixed_kind, kind_in, kinds_of}
use Rattle.og_query.specs.Queries.{Fixed}
use Rattle.og_query.specs.declared.typed.Assign.{Assign}
use Rattle.og_query.proofs.KindLemmas.{value_has_its_kind}
use Rattle.og_query.proofs.QueryLemmas.{rows_ordered}
use Rattle.og_db.specs.Database.{Relation, HaveKinds}
use Rattle.og_db.specs.Fits.{IsFitFixed}
use Rattle.og_db.specs.Insertion.{on_all_days, all_days}
use Rattle.og_db.specs.Statements.{assigned}

-- rows that are present on all days are so on each
present_on_all : (rows : List (List Value)) (d : ℤ) → IsRefDay d → present row_at (on_all_days rows) d ≡ map (λ row. row_at row d) rows
present_on_all [] d day = refl
present_on_all (row ∷ rows) d day =
    ap (λ b. if b then row_at row d ∷ present row_at (on_all_days rows) d else present row_at (on_all_days rows) d) (holds_day-all d day)
    ∙ ap (λ more. row_at row d ∷ more) (present_on_all rows d day)

-- the rows of a day of a relation with rows that are inserted
pub inserted : (rel : Relation) (rows : List (List Value)) (d : ℤ) → IsRefDay d
    → relation_at row_order row_at (rel ++ on_all_days rows) d ≡ set_of row_order (relation_at row_order row_at rel d ++ map (λ row. row_at row d) rows)
inserted rel rows d day =
    relation_at-append rows_ordered row_at rel (on_all_days rows) d
    ∙ set_of-append_right rows_ordered (relation_at row_order row_at rel d) (present row_at (on_all_days rows) d)
    ∙ ap (λ more. set_of row_order (relation_at row_order row_at rel d ++ more)) (present_on_all rows d day)

-- rows that fit do so on all days
pub inserted_fit : (columns : List Column) (rows : List (List Value)) → All (IsFitRow columns) rows → HaveKinds columns (on_all_days rows)
inserted_fit columns rows fit = All-map (λ p. IsFitRow columns p.0) (λ row. (row, all_days)) rows fit

-- how many rows there are then
pub length-inserted : (rel : Relation) (rows : List (List Value)) → length (rel ++ on_all_days rows) ≤ length rel + length rows
length-inserted rel rows = omega (arith, length-append rel (on_all_days rows), length-map {B = List Value × List Range} rows (λ row. (row, all_days)))

module _ (columns : List Column) where
  -- what is left of rows that fit
  pub left_fit : (p : Fixed → Bool) (rows : List Fixed) → All (IsFitFixed columns) rows → All (IsFitFixed columns) (filter p rows)
  left_fit p rows fit = All-filter p (IsFitFixed columns) rows fit

  module _ (d : ℤ) (row : Fixed) (row_fit : IsFitFixed columns row) where
    -- one assignment to a row that fits
    one_fits : (one : Assign) (start : Fixed) → IsFitAssign columns one → IsFitFixed columns start → IsFitFixed columns (set start one.column (meaning d row one.expr))
    one_fits one start fit start_fit =
        map-set fixed_kind start one.column (meaning d row one.expr)
        ∙ ap₂ (λ kinds kind. set kinds one.column kind) start_fit
        (value_has_its_kind d row one.expr fit.0 (subst (λ kinds. kind_in kinds one.expr ≡ Some fit.0) (sym row_fit) fit.2)
        ∙ sym (get_or_from_slice_get (kinds_of columns) one.column fit.0 fit.0 fit.1))
        ∙ set-get_or (kinds_of columns) one.column fit.0

    -- all of them
    all_fit : (sets : List Assign) (start : Fixed) → AllByRecursion (IsFitAssign columns) sets → IsFitFixed columns start
        → IsFitFixed columns (fold (λ new one. set new one.column (meaning d row one.expr)) start sets)
    all_fit [] start fit start_fit = start_fit
    all_fit (one ∷ sets) start fit start_fit = all_fit sets (set start one.column (meaning d row one.expr)) fit.1 (one_fits one start fit.0 start_fit)

  -- rows that fit, with the assigned rows in the place of some
  pub assigned_fit : (d : ℤ) (p : Fixed → Bool) (sets : List Assign) (rows : List Fixed) → All (IsFitAssign columns) sets → All (IsFitFixed columns) rows
      → All (IsFitFixed columns) (set_of row_order (map (λ row. if p row then assigned d sets row else row) rows))
  assigned_fit d p sets rows sets_fit fit =
      All-set_of row_order (IsFitFixed columns) (map (λ row. if p row then assigned d sets row else row) rows)
      (All-map (IsFitFixed columns) (λ row. if p row then assigned d sets row else row) rows
      (All-weaker (IsFitFixed columns) (λ row. IsFitFixed columns (if p row then assigned d sets row else row)) either rows fit))
    where
      either : (row : Fixed) → IsFitFixed columns row → IsFitFixed columns (if p row then assigned d sets row else row)
      either row row_fit =
          elim (p row) as (λ b. IsFitFixed columns (if b then assigned d sets row else row)) [
            | true ↦ all_fit d row row_fit sets row (recursion_from_All (IsFitAssign columns) sets sets_fit) row_fit
            | false ↦ row_fit
          ]

-- the order that rows have is that of their definition
pub row_order_is : slice_cmp derived.cmp-value.it ≡ row_order
row_order_is = λ i x y. slice_cmp (λ a b. values_ordered a b i) x y
