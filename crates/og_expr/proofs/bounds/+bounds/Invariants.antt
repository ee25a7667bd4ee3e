use Rattle.std.proofs.Common.{◌≡◌, true, false, take}
use Rattle.std.specs.List.{list_all, list_any}
use Rattle.og_expr.specs.Bounds.{may_hold}
use Rattle.og_expr.proofs.bounds.+bounds.Given as goal

abbrev pub invariant-all_may_hold-parts : goal.invariant-all_may_hold-parts
invariant-all_may_hold-parts l = list_all (may_hold l.columns) (take l.part-index l.part-items) ≡ true

abbrev pub invariant-any_may_hold-parts : goal.invariant-any_may_hold-parts
invariant-any_may_hold-parts l = list_any (may_hold l.columns) (take l.part-index l.part-items) ≡ false
