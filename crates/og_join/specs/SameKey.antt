-- Right rows with their keys and spans, and the hits that are made of left rows and those that have their keys.
use Rattle.std.specs.Prelude.{◌≡◌, ◌≤◌, ◌*◌, ◌&&◌, ℤ, Bool, true, List, [], ◌∷◌, length}
use Rattle.std.specs.List.{All, Contains, list_any}
use Rattle.std.specs.declared.cmp.Ordering.{Ordering}
use Rattle.og_base.specs.Calendar.{IsRefDay}
use Rattle.og_base.specs.Ranges.{Range}
use Rattle.og_base.specs.declared.range.FixedPeriod.{FixedPeriod}
use Rattle.og_rel.specs.Relations.{present}
use Rattle.og_rel.specs.declared.pair.Pair.{Pair}
use Rattle.og_ops.specs.declared.semijoins.KeyedRow.{KeyedRow}
use Rattle.og_ops.specs.Lending.{lent}
use Rattle.og_join.specs.Hits.{stored_hits}
use Rattle.og_join.specs.Joined.{joined, DoOverlap}
use Rattle.og_join.specs.Sought.{OfSought}
use Rattle.og_join.specs.declared.span_key.SpanKey.{SpanKey}

-- on every day each key is that of its row
abbrev pub HaveDayKeys : {R F K : Type 0} → (R → ℤ → F) → (F → K) → List (KeyedRow R (SpanKey K)) → Type 0
HaveDayKeys at key_of rows = All (λ s. (d : ℤ) → IsRefDay d → key_of (at s.row.now d) ≡ s.key.key) rows

-- each span is that of its row
abbrev pub HaveSpans : {R K : Type 0} → (R → FixedPeriod) → List (KeyedRow R (SpanKey K)) → Type 0
HaveSpans span_of rows = All (λ s. span_of s.row.now ≡ s.key.span) rows

-- where the condition holds on some day of the row glued to the other, the span overlaps the other's
abbrev pub IsNear : {R F K : Type 0} → (F → F → F) → (R → ℤ → F) → (ℤ → F → Bool) → FixedPeriod → R → KeyedRow R (SpanKey K) → Type 0
IsNear glued at holds span row other = (d : ℤ) → IsRefDay d → holds d (glued (at row d) (at other.row.now d)) ≡ true → DoOverlap span other.key.span

-- the rows are some of the right ones, with their keys and spans: on every day some of them passes a test of rows whose keys are sought where some right row does
pub record AreLent {R F K : Type 0} (at : R → ℤ → F) (cmp : K → K → Ordering) (key_of : F → K) (span_of : R → FixedPeriod) (sought : Bool × List K) (right : List (R × List Range)) (rows : List (KeyedRow R (SpanKey K))) : Type 0 where
  pub keys : HaveDayKeys at key_of rows
  pub spans : HaveSpans span_of rows
  pub found : (t : F → Bool) (d : ℤ) → IsRefDay d → OfSought cmp key_of sought t → list_any t (present at (lent rows) d) ≡ list_any t (present at right d)
  pub among : All (Contains right) (lent rows)
  pub size : length rows ≤ length right

-- on every day the image of the row glued to each of the others for which the condition holds, and at most one hit for each
pub record AreHits {R F : Type 0} (glued : F → F → F) (image : ℤ → F → F) (holds : ℤ → F → Bool) (at : R → ℤ → F) (row : R) (days : List Range) (others : List (R × List Range)) (made : List (Pair R)) : Type 0 where
  pub law : (d : ℤ) → IsRefDay d → present at (stored_hits made) d ≡ joined (λ x y. image d (glued x y)) (λ x y. holds d (glued x y)) (present at ((row, days) ∷ []) d) (present at others d)
  pub size : length made ≤ length others

-- on every day the images of the left rows glued to the right ones that have their keys and for which the condition holds, and at most one hit for each pair of rows
pub record AreHitsOf {R F : Type 0} (glued : F → F → F) (image : ℤ → F → F) (same_key : F → F → Bool) (holds : ℤ → F → Bool) (at : R → ℤ → F) (left right : List (R × List Range)) (made : List (Pair R)) : Type 0 where
  pub law : (d : ℤ) → IsRefDay d → present at (stored_hits made) d ≡ joined (λ x y. image d (glued x y)) (λ x y. same_key x y && holds d (glued x y)) (present at left d) (present at right d)
  pub size : length made ≤ length left * length right
