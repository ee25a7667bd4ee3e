use Rattle.std.proofs.Common.{◌≡◌, ◌++◌, take}
use Rattle.std.specs.List.{flat_map}
use Rattle.og_plan.specs.Parts.{places_of}
use Rattle.og_plan.proofs.places.+places.Given as goal

abbrev pub invariant-all_places-all : goal.invariant-all_places-all
invariant-all_places-all l = l.out.items ≡ l.fn.out.items ++ flat_map places_of (take l.cond-index l.cond-items)
