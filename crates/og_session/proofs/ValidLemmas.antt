-- The valid range of a name.
use Rattle.std.proofs.Common.{◌≡◌, ◌↔◌, ◌∙◌, ℕ, ℤ, List, Some, refl, sym}
use Rattle.std.proofs.lemmas.Slice.Eq.{bytes_eq-Decides}
use Rattle.og_base.specs.Calendar.{IsRefDay}
use Rattle.og_base.specs.Ranges.{Range}
use Rattle.og_change.specs.Same.{IsLongest}
use Rattle.og_value.specs.Order.{row_order}
use Rattle.og_value.specs.Values.{row_at}
use Rattle.og_value.specs.declared.schema.Column.{Column}
use Rattle.og_rel.specs.Relations.{relation_at}
use Rattle.og_query.specs.Fits.{schemas_of}
use Rattle.og_db.specs.Database.{Relation}
use Rattle.og_db.specs.Effects.{Effect}
use Rattle.og_db.specs.Held.{Held, found, known_of, rows_of}
use Rattle.og_db.specs.Runs.{IsWorldOf}
use Rattle.og_output.specs.Records.{layout}
use Rattle.og_output.proofs.LongestLemmas.{one_longest, same_longest}
use Rattle.og_session.specs.Output.{printed, prints_same, valid_range}
use Rattle.og_session.proofs.PieceLemmas.{layout-found, piece-name}
use Rattle.og_session.proofs.SearchLemmas.{longest}

-- it is the longest range of days around the day on which a PRINT of the name writes the same
pub printed_longest : (before : List Effect) (name : List ℕ) (day : ℤ) → IsRefDay day → IsLongest (λ d. printed before name d ≡ printed before name day) day (valid_range before name day)
unfolding valid_range
printed_longest before name day is =
    longest (prints_same before name day) (λ d. printed before name d ≡ printed before name day) (λ d. bytes_eq-Decides (printed before name d) (printed before name day)) day is refl

module _ (db : List (Held Relation)) (name : List ℕ) (columns : List Column) (rel : Relation) (known : schemas_of (known_of db) name ≡ Some columns) (held : rows_of db name ≡ Some rel)
    (files : List (Held Relation)) (before : List Effect) (world : IsWorldOf db files before) where
  -- the layout of a day
  abbrev laid : ℤ → List ℕ
  laid d = layout columns (relation_at row_order row_at rel d)

  -- a PRINT of the name writes it
  printed_is : (d : ℤ) → IsRefDay d → laid d ≡ printed before name d
  printed_is d is = layout-found (λ r. relation_at row_order row_at r d) (found db name) columns rel known held ∙ piece-name db files before world name d is

  -- so two days have the same layout where it writes the same
  same : (day : ℤ) → IsRefDay day → (d : ℤ) → IsRefDay d → (laid d ≡ laid day) ↔ (printed before name d ≡ printed before name day)
  same day day_is d is = (λ e. sym (printed_is d is) ∙ e ∙ printed_is day day_is, λ e. printed_is d is ∙ e ∙ sym (printed_is day day_is))

  -- and the longest range of days with the same layout is the valid range
  pub range_is : (day : ℤ) → IsRefDay day → (range : Range) → IsLongest (λ d. laid d ≡ laid day) day range → range ≡ valid_range before name day
  range_is day is range l =
      let So = λ (d : ℤ). printed before name d ≡ printed before name day in
      one_longest So day range (valid_range before name day) (same_longest (λ d. laid d ≡ laid day) So day range (same day is) l) (printed_longest before name day is)
