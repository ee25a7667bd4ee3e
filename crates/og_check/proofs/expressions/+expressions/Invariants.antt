use Rattle.std.proofs.Common.{◌≡◌, drop, map}
use Rattle.og_check.specs.Expressions.{expr_of}
use Rattle.og_check.specs.Fronts.{parted, with_fronts}
use Rattle.og_check.specs.Steps.{in_order}
use Rattle.og_check.proofs.expressions.+expressions.Given as goal

abbrev pub invariant-args_of-each : goal.invariant-args_of-each
invariant-args_of-each l = with_fronts l.exprs l.kinds (in_order (map (expr_of l.sight) (drop l.arg-index l.arg-items))) ≡ parted (in_order (map (expr_of l.sight) l.arg-items))
