-- On which days two rows are glued.
use Rattle.std.specs.Prelude.{◌≡◌, ◌&&◌, ℤ, Bool, true, false, List}
use Rattle.og_base.specs.Calendar.{IsRefDay}
use Rattle.og_base.specs.Ranges.{Range, holds_day}

-- both rows are present on the day, and the condition holds of the two glued
abbrev pub is_hit : {F : Type 0} → (F → F → F) → (ℤ → F → Bool) → (ℤ → F) → (ℤ → F) → List Range → List Range → ℤ → Bool
is_hit glued holds left right left_days right_days d = (holds_day left_days d && holds_day right_days d) && holds d (glued (left d) (right d))

-- it holds on some reference day
abbrev pub OnSomeDay : (ℤ → Bool) → Type 0
OnSomeDay p = (d : ℤ) × IsRefDay d × (p d ≡ true)

-- it holds on no reference day
abbrev pub OnNoDay : (ℤ → Bool) → Type 0
OnNoDay p = (d : ℤ) → IsRefDay d → p d ≡ false
