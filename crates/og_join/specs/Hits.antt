-- Rows that were made of two, as a relation.
use Rattle.std.specs.Prelude.{List}
use Rattle.std.specs.List.{flat_map}
use Rattle.og_base.specs.Ranges.{Range}
use Rattle.og_rel.specs.declared.pair.Pair.{Pair}
use Rattle.og_rel.specs.Relations.{stored}

-- each row with its days, but none that has no day
abbrev pub stored_hits : {R : Type 0} → List (Pair R) → List (R × List Range)
stored_hits hits = flat_map (λ h. stored h.row h.days) hits
