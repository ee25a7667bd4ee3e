use Rattle.std.proofs.Common.{◌≡◌, ℤ, map, take}
use Rattle.og_base.specs.Calendar.{IsRefDay}
use Rattle.og_value.specs.Values.{row_at}
use Rattle.og_query.specs.Expressions.{meaning}
use Rattle.og_expr.proofs.values.+values.Given as goal

abbrev pub invariant-values_of-all : goal.invariant-values_of-all
invariant-values_of-all l = (d : ℤ) → IsRefDay d → row_at l.values.items d ≡ map (meaning d (row_at l.columns d)) (take l.expr-index l.exprs)
