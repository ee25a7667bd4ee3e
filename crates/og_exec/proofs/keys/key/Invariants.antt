use Rattle.std.proofs.Common.{◌≡◌, ℤ, map, take}
use Rattle.og_value.specs.Values.{row_at}
use Rattle.og_plan.specs.Meaning.{column}
use Rattle.og_exec.specs.Keys.{key_value, place_in}
use Rattle.og_exec.proofs.keys.key.Given as goal

abbrev pub invariant-pairs : goal.invariant-pairs
invariant-pairs l = (d : ℤ) → map (λ pair. key_value (column (row_at l.row d) (place_in l.left pair))) (take l.pair-index l.pairs) ≡ l.values.items
