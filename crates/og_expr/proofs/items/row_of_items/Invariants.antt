use Rattle.std.proofs.Common.{◌≡◌, ℤ, map, take}
use Rattle.og_base.specs.Calendar.{IsRefDay}
use Rattle.og_value.specs.Values.{row_at}
use Rattle.og_query.specs.Expressions.{meaning}
use Rattle.og_expr.proofs.items.row_of_items.Given as goal

abbrev pub invariant-items : goal.invariant-items
invariant-items l = (d : ℤ) → IsRefDay d → row_at l.row d ≡ map (meaning d (row_at l.columns d)) (take l.item-index l.items)
