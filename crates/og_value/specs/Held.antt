-- Where the bytes of a text lie.
use Rattle.std.specs.Prelude.{◌<◌, ℕ, List, length, ⊤}
use Rattle.std.specs.Arc.{arc_str_bytes}
use Rattle.og_value.specs.declared.text.Held.{Held}
use Rattle.og_value.specs.declared.text.Held.TheVariants.{Short, Long}

-- the bytes of the text
abbrev pub held_bytes : Held → List ℕ
held_bytes (Short text) = text
held_bytes (Long text) = arc_str_bytes text

-- what is held in memory is longer than 14 bytes
abbrev pub IsHeld : Held → Type 0
IsHeld (Short text) = ⊤
IsHeld (Long text) = 14 < length (arc_str_bytes text)
