-- What reads take of a source, and when it has ended.
use Rattle.std.specs.Prelude.{◌≤◌, ℕ, Bool, true, List, Option, Result, Ok, Err, length, nat_lt, not}
use Rattle.std.specs.Io.KnownBytes.{Consumes}

-- whether an answer ends the source: no byte came, or it failed
abbrev pub is_end : {E : Type 0} → Result ℕ E → Bool
is_end (Ok count) = not (nat_lt 0 count)
is_end (Err e) = true

-- the most bytes that one call asks for
abbrev pub max_part : ℕ
max_part = 65536

-- at most so many bytes were taken, from the front of those that were told
abbrev pub TakesAtMost : ℕ → Option (List ℕ) → Option (List ℕ) → Type 0
TakesAtMost most old now = (taken : List ℕ) × Consumes old now taken × (length taken ≤ most)
