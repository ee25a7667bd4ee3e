use Rattle.std.proofs.Common.{◌≡◌, map, take}
use Rattle.og_plan.specs.Parts.{expr_from}
use Rattle.og_plan.proofs.parts.+expr_from.Given as goal

abbrev pub invariant-exprs_from-all : goal.invariant-exprs_from-all
invariant-exprs_from-all l = l.moved ≡ map (expr_from l.start) (take l.expr-index l.expr-items)
