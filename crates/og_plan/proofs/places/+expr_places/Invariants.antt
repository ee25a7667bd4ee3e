use Rattle.std.proofs.Common.{◌≡◌, ◌++◌, take}
use Rattle.std.specs.List.{flat_map}
use Rattle.og_plan.specs.Parts.{expr_places}
use Rattle.og_plan.proofs.places.+expr_places.Given as goal

abbrev pub invariant-all_expr_places-all : goal.invariant-all_expr_places-all
invariant-all_expr_places-all l = l.out.items ≡ l.fn.out.items ++ flat_map expr_places (take l.expr-index l.expr-items)
