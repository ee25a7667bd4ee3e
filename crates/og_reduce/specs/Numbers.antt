-- Numbers, and bounds of them.
use Rattle.std.specs.Prelude.{◌≤ℤ◌, ℤ, List}
use Rattle.std.specs.List.{All}

-- all of the numbers lie between these two
abbrev pub AreBetween : ℤ → ℤ → List ℤ → Type 0
AreBetween least greatest numbers = All (λ n. (least ≤ℤ n) × (n ≤ℤ greatest)) numbers
