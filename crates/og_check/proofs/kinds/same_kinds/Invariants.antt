use Rattle.std.proofs.Common.{◌≡◌, drop}
use Rattle.og_check.specs.Steps.{same_kinds}
use Rattle.og_check.proofs.kinds.same_kinds.Given as goal

abbrev pub invariant-kinds : goal.invariant-kinds
invariant-kinds l = same_kinds (drop l.i l.found) (drop l.i l.wanted) ≡ same_kinds l.found l.wanted
