-- The truth that a sift wants of its condition.
use Rattle.std.specs.Prelude.{Bool, true, false, not}

-- whether a truth is the wanted one
abbrev pub is_wanted : Bool → Bool → Bool
is_wanted true b = b
is_wanted false b = not b
