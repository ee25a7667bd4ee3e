-- Changes in place: only the rows that a condition may touch go through a change, and what comes of them stands in their place.
use Rattle.std.proofs.Common.{◌≡◌, ◌++◌, ◌||◌, ◌&&◌, ℤ, Bool, true, false, not, List, filter, Ordering, refl, sym, ap, ap₂, ◌∙◌}
use Rattle.std.specs.List.{list_any}
use Rattle.std.proofs.lemmas.List.Elements.{All-filter}
use Rattle.std.proofs.lemmas.List.Folds.{list_any-append}
use Rattle.og_base.specs.Calendar.{IsRefDay}
use Rattle.og_base.specs.Ranges.{Range, holds_day}
use Rattle.og_base.specs.Set.{IsExactOrder, set_of}
use Rattle.og_base.proofs.SetLemmas.{filter-set_of, set_of-set_of}
use Rattle.og_base.proofs.SetMembers.{list_any-filter}
use Rattle.og_value.specs.Order.{row_order}
use Rattle.og_value.specs.Values.{row_at}
use Rattle.og_value.specs.declared.schema.Column.{Column}
use Rattle.og_value.specs.declared.value.Value.{Value}
use Rattle.og_rel.specs.Relations.{instead, others, passing, present, relation_at}
use Rattle.og_rel.proofs.AlgebraLemmas.{any_of_either, same_set_by_tests}
use Rattle.og_rel.proofs.PresentLemmas.{list_any-relation_at, relation_at-append}
use Rattle.og_query.specs.Conditions.{truth}
use Rattle.og_query.specs.Fits.{IsFitRow}
use Rattle.og_query.specs.Queries.{Fixed}
use Rattle.og_query.specs.declared.condition.Cond.{Cond}
use Rattle.og_query.proofs.QueryLemmas.{rows_ordered}
use Rattle.og_db.specs.Database.{HaveKinds, Relation}

module _ {R F : Type 0} {cmp : F → F → Ordering} (o : IsExactOrder cmp) (at : R → ℤ → F) (touch : R → Bool) (d : ℤ) (rel : List (R × List Range)) where
  -- a test of the touched rows on the day
  any_touched : (t : F → Bool) → list_any t (relation_at cmp at (passing touch rel) d) ≡ list_any (λ p. touch p.0 && (holds_day p.1 d && t (at p.0 d))) rel
  any_touched t = list_any-relation_at o at t (passing touch rel) d ∙ list_any-filter (λ p. holds_day p.1 d && t (at p.0 d)) (λ p. touch p.0) rel

  -- and of the others
  any_other : (t : F → Bool) → list_any t (relation_at cmp at (others touch rel) d) ≡ list_any (λ p. not (touch p.0) && (holds_day p.1 d && t (at p.0 d))) rel
  any_other t = list_any-relation_at o at t (others touch rel) d ∙ list_any-filter (λ p. holds_day p.1 d && t (at p.0 d)) (λ p. not (touch p.0)) rel

  -- of which a test holds on the day are the same rows among the touched ones, where it holds of no other
  pub filter-touched : (holds : F → Bool) → ((row : R) → touch row ≡ false → holds (at row d) ≡ false)
      → filter holds (relation_at cmp at (passing touch rel) d) ≡ filter holds (relation_at cmp at rel d)
  filter-touched holds none =
      sym (own (passing touch rel)) ∙ same_set_by_tests o (filter holds (relation_at cmp at (passing touch rel) d)) (filter holds (relation_at cmp at rel d)) tested ∙ own rel
    where
      own : (rows : List (R × List Range)) → set_of cmp (filter holds (relation_at cmp at rows d)) ≡ filter holds (relation_at cmp at rows d)
      own rows = sym (filter-set_of o holds (relation_at cmp at rows d)) ∙ ap (filter holds) (set_of-set_of o (present at rows d))

      only : (b h x y : Bool) → (b ≡ false → x ≡ false) → (b && (h && (x && y))) ≡ (h && (x && y))
      only true h x y out = refl
      only false false x y out = refl
      only false true x y out = ap (λ z. z && y) (sym (out refl))

      tested : (t : F → Bool) → list_any t (filter holds (relation_at cmp at (passing touch rel) d)) ≡ list_any t (filter holds (relation_at cmp at rel d))
      tested t =
          list_any-filter t holds (relation_at cmp at (passing touch rel) d)
          ∙ any_touched (λ x. holds x && t x)
          ∙ (λ i. list_any (λ p. only (touch p.0) (holds_day p.1 d) (holds (at p.0 d)) (t (at p.0 d)) (none p.0) i) rel)
          ∙ sym (list_any-filter t holds (relation_at cmp at rel d) ∙ list_any-relation_at o at (λ x. holds x && t x) rel d)

  -- what a change makes of the touched rows, in their place, is what it makes of all rows: where a test of what it makes is another test of the rows, and
  -- the two are the same of each row that is not touched
  pub relation_at-instead : (change : List F → List F) (asked : (F → Bool) → F → Bool) → ((t : F → Bool) (xs : List F) → list_any t (change xs) ≡ list_any (asked t) xs)
      → ((row : R) → touch row ≡ false → (t : F → Bool) → t (at row d) ≡ asked t (at row d))
      → (more : List (R × List Range)) → relation_at cmp at more d ≡ change (relation_at cmp at (passing touch rel) d)
      → relation_at cmp at (instead touch more rel) d ≡ set_of cmp (change (relation_at cmp at rel d))
  relation_at-instead change asked made same more law =
      relation_at-append o at (others touch rel) more d
      ∙ same_set_by_tests o (relation_at cmp at (others touch rel) d ++ relation_at cmp at more d) (change (relation_at cmp at rel d)) tested
    where
      either : (b h x y : Bool) → (b ≡ false → x ≡ y) → ((not b && (h && x)) || (b && (h && y))) ≡ (h && y)
      either true h x y alike = refl
      either false false x y alike = refl
      either false true true y alike = alike refl
      either false true false y alike = alike refl

      tested : (t : F → Bool) → list_any t (relation_at cmp at (others touch rel) d ++ relation_at cmp at more d) ≡ list_any t (change (relation_at cmp at rel d))
      tested t =
          list_any-append t (relation_at cmp at (others touch rel) d) (relation_at cmp at more d)
          ∙ ap₂ (λ a b. a || b) (any_other t) (ap (list_any t) law ∙ made t (relation_at cmp at (passing touch rel) d) ∙ any_touched (asked t))
          ∙ sym (any_of_either (λ p. not (touch p.0) && (holds_day p.1 d && t (at p.0 d))) (λ p. touch p.0 && (holds_day p.1 d && asked t (at p.0 d))) rel)
          ∙ (λ i. list_any (λ p. either (touch p.0) (holds_day p.1 d) (t (at p.0 d)) (asked t (at p.0 d)) (λ out. same p.0 out t) i) rel)
          ∙ sym (made t (relation_at cmp at rel d) ∙ list_any-relation_at o at (asked t) rel d)

module _ (touch : List Value → Bool) (cond : Cond) (never : (row : List Value) → touch row ≡ false → (d : ℤ) → IsRefDay d → truth d (row_at row d) cond ≡ false) where
  module _ (rel rows : Relation) (touched : rows ≡ passing touch rel) (d : ℤ) (day : IsRefDay d) where
    -- the rows of which the condition holds are among the touched ones
    pub gone-touched : filter (λ row. truth d row cond) (relation_at row_order row_at rows d) ≡ filter (λ row. truth d row cond) (relation_at row_order row_at rel d)
    gone-touched =
        ap (λ rows. filter (λ row. truth d row cond) (relation_at row_order row_at rows d)) touched
        ∙ filter-touched rows_ordered row_at touch d rel (λ row. truth d row cond) (λ row out. never row out d day)

    -- what a deletion leaves of the touched rows, in their place, is what it leaves of all
    pub left-instead : (left : Relation) → relation_at row_order row_at left d ≡ filter (λ row. not (truth d row cond)) (relation_at row_order row_at rows d)
        → relation_at row_order row_at (instead touch left rel) d ≡ filter (λ row. not (truth d row cond)) (relation_at row_order row_at rel d)
    left-instead left law =
        relation_at-instead rows_ordered row_at touch d rel (filter stays) (λ t x. stays x && t x) (λ t xs. list_any-filter t stays xs)
        (λ row out t. ap (λ b. not b && t (row_at row d)) (sym (never row out d day))) left (law ∙ ap (λ rows. filter stays (relation_at row_order row_at rows d)) touched)
        ∙ sym (filter-set_of rows_ordered stays (relation_at row_order row_at rel d))
        ∙ ap (filter stays) (set_of-set_of rows_ordered (present row_at rel d))
      where
        stays : Fixed → Bool
        stays row = not (truth d row cond)

module _ (columns : List Column) (test : List Value → Bool) (rel : Relation) (fit : HaveKinds columns rel) where
  -- rows that pass a test fit
  pub passing_fit : HaveKinds columns (passing test rel)
  passing_fit = All-filter (λ p. test p.0) (λ p. IsFitRow columns p.0) rel fit
