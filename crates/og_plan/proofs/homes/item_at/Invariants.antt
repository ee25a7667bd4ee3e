use Rattle.std.proofs.Common.{◌≡◌, ◌+◌, drop}
use Rattle.og_plan.specs.Homes.{item_at}
use Rattle.og_plan.proofs.homes.item_at.Given as goal

abbrev pub invariant-items : goal.invariant-items
invariant-items l = l.i + item_at (drop l.i l.widths) l.left ≡ item_at l.widths l.place
