use Rattle.std.proofs.Common.{◌≡◌, ◌++◌}
use Rattle.og_plan.specs.Text.{indent}
use Rattle.og_plan.proofs.text.indent.Given as goal

abbrev pub invariant-levels : goal.invariant-levels
invariant-levels l = l.out.items ≡ l.fn.out.items ++ indent l.counter
