-- Rows that fit columns are laid out the same on two days where they are the same.
use Rattle.std.proofs.Common.{◌≡◌, ◌↔◌, ℤ, List, ap}
use Rattle.std.specs.List.{All}
use Rattle.std.proofs.lemmas.List.Elements.{All-from_recursion, All-map, All-weaker, recursion_from_All}
use Rattle.og_base.specs.Calendar.{IsRefDay}
use Rattle.og_base.specs.Ranges.{Range}
use Rattle.og_base.proofs.SetLemmas.{All-set_of}
use Rattle.og_value.specs.Cells.{IsFixed, fixed_text}
use Rattle.og_value.specs.Order.{rank, row_order}
use Rattle.og_value.specs.Values.{row_at, value_at}
use Rattle.og_value.specs.declared.schema.Column.{Column}
use Rattle.og_value.specs.declared.value.FixedValue.{FixedValue}
use Rattle.og_rel.specs.Relations.{present, relation_at}
use Rattle.og_change.specs.Same.{IsLongest}
use Rattle.og_db.specs.Database.{HaveKinds, Relation}
use Rattle.og_db.specs.Fits.{IsFitFixed}
use Rattle.og_db.proofs.FitLemmas.{All-present}
use Rattle.og_output.specs.Calendars.{AreOfCalendar, IsOfCalendar}
use Rattle.og_output.specs.Records.{layout}
use Rattle.og_output.proofs.LayoutLemmas.{IsWell, one_layout}
use Rattle.og_output.proofs.LongestLemmas.{same_longest}

-- what is known of rows on a day and of texts
pub record Laws : Type 0 where
  pub on_a_day : (columns : List Column) (rel : Relation) → HaveKinds columns rel → (d : ℤ) → All (IsFitFixed columns) (relation_at row_order row_at rel d)
  pub one_text : (x y : FixedValue) → IsFixed x → IsFixed y → rank x ≡ rank y → fixed_text x ≡ fixed_text y → x ≡ y

module _ (laws : Laws) (columns : List Column) (rel : Relation) (kinds : HaveKinds columns rel) (calendar : AreOfCalendar rel) where
  -- the rows of a day
  abbrev rows : ℤ → List (List FixedValue)
  rows d = relation_at row_order row_at rel d

  -- they fit the columns, and their values are of the calendar
  well : (d : ℤ) → IsRefDay d → All (IsWell columns) (rows d)
  well d is =
      let each = All-weaker (λ p. All IsOfCalendar p.0) (λ p. All IsFixed (row_at p.0 d))
      (λ p all. All-map IsFixed (λ v. value_at v d) p.0 (All-weaker IsOfCalendar (λ v. IsFixed (value_at v d)) (λ v so. so d is) p.0 all)) rel calendar in
      let fixed = All-set_of row_order (All IsFixed) (present row_at rel d)
      (All-from_recursion (All IsFixed) (present row_at rel d) (All-present row_at d (All IsFixed) rel (recursion_from_All (λ p. All IsFixed (row_at p.0 d)) rel each))) in
      let fit = laws.on_a_day columns rel kinds d in
      λ k x within. (fit k x within, fixed k x within)

  -- two days have the same rows where these are laid out the same
  same : (day : ℤ) → IsRefDay day → (d : ℤ) → IsRefDay d → (rows d ≡ rows day) ↔ (layout columns (rows d) ≡ layout columns (rows day))
  same day day_is d is = (ap (layout columns), one_layout laws.one_text columns (rows d) (rows day) (well d is) (well day day_is))

  -- so the longest range of days with the same rows is that of days with the same layout
  pub layout_longest : (day : ℤ) → IsRefDay day → (range : Range) → IsLongest (λ d. rows d ≡ rows day) day range → IsLongest (λ d. layout columns (rows d) ≡ layout columns (rows day)) day range
  layout_longest day is range = same_longest (λ d. rows d ≡ rows day) (λ d. layout columns (rows d) ≡ layout columns (rows day)) day range (same day is)
