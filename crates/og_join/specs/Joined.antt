-- Joins on one day, and the spans that tell which rows can meet.
use Rattle.std.specs.Prelude.{◌≡◌, ◌<ℤ◌, ℤ, Bool, true, List, map, filter}
use Rattle.std.specs.List.{All, flat_map}
use Rattle.og_base.specs.Calendar.{IsRefDay, before_all, after_all}
use Rattle.og_base.specs.Ranges.{Range}
use Rattle.og_base.specs.declared.range.FixedPeriod.{FixedPeriod}

-- each row of the left glued to each of the right that it meets
abbrev pub joined : {F : Type 0} → (F → F → F) → (F → F → Bool) → List F → List F → List F
joined glued meets xs ys = flat_map (λ x. map (glued x) (filter (meets x) ys)) xs

-- the span of all days
abbrev pub all_days : FixedPeriod
all_days = record { start = before_all; end = after_all }

-- both spans have days, and each begins before the other ends
pub record DoOverlap (a b : FixedPeriod) : Type 0 where
  pub first : a.start <ℤ a.end
  pub second : b.start <ℤ b.end
  pub before : a.start <ℤ b.end
  pub after : b.start <ℤ a.end

-- where a condition holds on some day of two rows glued, their spans overlap
abbrev pub AreTold : {R F : Type 0} → (F → F → F) → (R → ℤ → F) → (ℤ → F → Bool) → (R → FixedPeriod) → (R → FixedPeriod) → List (R × List Range) → List (R × List Range) → Type 0
AreTold glued at holds left_span right_span left right =
    All (λ p. All (λ q. (d : ℤ) → IsRefDay d → holds d (glued (at p.0 d) (at q.0 d)) ≡ true → DoOverlap (left_span p.0) (right_span q.0)) right) left
