use Rattle.std.proofs.Common.{◌≡◌, ℤ, map, take}
use Rattle.og_query.specs.Expressions.{meaning}
use Rattle.og_query.proofs.values.+values.Given as goal

abbrev pub invariant-values_of-all : goal.invariant-values_of-all
invariant-values_of-all l = (d : ℤ) → l.values.items ≡ map (meaning d l.row) (take l.expr-index l.expr-items)
