-- Pairs of rows that are tried, and what may be made of them.
use Rattle.std.specs.Prelude.{◌≡◌, ◌≤◌, ◌&&◌, ℕ, ℤ, Bool, List, int_lt, length}
use Rattle.std.specs.List.{list_any}
use Rattle.og_base.specs.Calendar.{IsRefDay}
use Rattle.og_base.specs.Ranges.{Range}
use Rattle.og_base.specs.declared.comparison.Outer.{Outer}
use Rattle.og_base.specs.declared.range.FixedPeriod.{FixedPeriod}
use Rattle.og_rel.specs.declared.pair.Pair.{Pair}
use Rattle.og_ops.specs.Days.{is_hit}
use Rattle.og_rel.specs.Relations.{present}
use Rattle.og_join.specs.Hits.{stored_hits}
use Rattle.og_join.specs.Overlaps.{overlap}
use Rattle.og_join.specs.Places.{is_at}

-- whether the span has days
abbrev pub has_days : FixedPeriod → Bool
has_days span = int_lt span.start span.end

-- the test holds of the ends of the span and of the row at its place
abbrev pub at_row : {R : Type 0} → (ℤ → ℤ → R × List Range → Bool) → List (R × List Range) → Outer → Bool
at_row t rel span = is_at (t span.lo span.hi) rel span.row

-- the span of the row has days, and the test holds of its ends and of the row
abbrev pub has_span : {R : Type 0} → (R → FixedPeriod) → (ℤ → ℤ → R × List Range → Bool) → R × List Range → Bool
has_span span_of t p = has_days (span_of p.0) && t (span_of p.0).start (span_of p.0).end p

-- some span passes a test of its ends and of the row at its place where some row does that has a span with days
abbrev pub AreSpansOf : {R : Type 0} → (R → FixedPeriod) → List (R × List Range) → List Outer → Type 0
AreSpansOf {R} span_of rel spans = (t : ℤ → ℤ → R × List Range → Bool) → list_any (at_row t rel) spans ≡ list_any (has_span span_of t) rel

-- on the day both rows are present and the condition holds of the two glued, and so does the test
abbrev pub do_meet : {R F : Type 0} → (F → F → F) → (R → ℤ → F) → (ℤ → F → Bool) → (F → Bool) → ℤ → R × List Range → R × List Range → Bool
do_meet glued at holds t d p q = is_hit glued holds (at p.0) (at q.0) p.1 q.1 d && t (glued (at p.0 d) (at q.0 d))

-- there are rows at both places, and they meet
abbrev pub rows_meet : {R F : Type 0} → (F → F → F) → (R → ℤ → F) → (ℤ → F → Bool) → List (R × List Range) → List (R × List Range) → ℕ → ℕ → (F → Bool) → ℤ → Bool
rows_meet glued at holds left right m n t d = is_at (λ p. is_at (do_meet glued at holds t d p) right n) left m

-- there are spans at both places, and the test holds of the places of their rows
abbrev pub rows_pass : (ℕ → ℕ → Bool) → List Outer → List Outer → ℕ × ℕ → Bool
rows_pass t ls rs places = is_at (λ a. is_at (λ b. t a.row b.row) rs places.1) ls places.0

-- some of the right spans overlaps the span, and the rows of the two meet
abbrev pub meets_some : {R F : Type 0} → (F → F → F) → (R → ℤ → F) → (ℤ → F → Bool) → List (R × List Range) → List (R × List Range) → List Outer → (F → Bool) → ℤ → Outer → Bool
meets_some glued at holds left right rs t d a = list_any (λ b. overlap (λ o. o.lo) (λ o. o.hi) a b && rows_meet glued at holds left right a.row b.row t d) rs

-- on each day some row passes a test where some of the left spans overlaps a right one, and their rows meet and their image passes it
abbrev pub AreJoined : {R F : Type 0} → (F → F → F) → (ℤ → F → F) → (R → ℤ → F) → (ℤ → F → Bool) → List (R × List Range) → List (R × List Range) → List Outer → List Outer → List (R × List Range) → Type 0
AreJoined {R} {F} glued image at holds left right rs ls made =
    (t : F → Bool) (d : ℤ) → IsRefDay d → list_any t (present at made d) ≡ list_any (meets_some glued at holds left right rs (λ x. t (image d x)) d) ls

-- at most one row, and on each day it passes the tests that the image of two rows which meet passes
abbrev pub IsMadeOf : {R F : Type 0} → (ℤ → F → F) → (R → ℤ → F) → ((F → Bool) → ℤ → Bool) → List (Pair R) → Type 0
IsMadeOf {R} {F} image at meet made = (length made ≤ 1) × ((t : F → Bool) (d : ℤ) → IsRefDay d → list_any t (present at (stored_hits made) d) ≡ meet (λ x. t (image d x)) d)
