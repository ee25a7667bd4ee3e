use Rattle.std.proofs.Common.{◌≡◌, map, take}
use Rattle.og_plan.specs.Homes.{item_at}
use Rattle.og_plan.proofs.homes.items_of.Given as goal

abbrev pub invariant-places : goal.invariant-places
invariant-places l = l.items.items ≡ map (item_at l.widths) (take l.place-index l.place-items)
