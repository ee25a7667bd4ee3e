-- What reading a source to its end gives.
use Rattle.std.specs.Prelude.{◌≡◌, ◌≤◌, ◌<◌, ℕ, Bool, true, false, List, [], length, Option, Some, Result, Ok, Err, Vec}
use Rattle.std.specs.declared.alloc.Global.{Global}
use Rattle.og_script.specs.Scripts.{max_source}
use Rattle.og_script.specs.declared.source.SourceRefusal.{SourceRefusal}
use Rattle.og_script.specs.declared.source.SourceRefusal.TheVariants as refusal

-- at Ok all of these bytes were read, none is left, and they keep the limit; at TooLong they are more than the limit
abbrev pub IsReading : List ℕ → Option (List ℕ) → Result (Vec ℕ Global) SourceRefusal → Type 0
IsReading bytes left (Ok v) = (v.items ≡ bytes) × (length bytes ≤ max_source) × (left ≡ Some [])
IsReading bytes left (Err refusal.TooLong) = max_source < length bytes
IsReading bytes left (Err refusal.Failed) = Unit {0}
IsReading bytes left (Err refusal.NoMemory) = Unit {0}

-- whether the source failed
abbrev pub is_unread : {T : Type 0} → Result T SourceRefusal → Bool
is_unread (Err refusal.Failed) = true
is_unread _ = false
