use Rattle.std.proofs.Common.{◌≡◌, drop}
use Rattle.og_sql_outside.specs.Outside.{first_in, outside_expr}
use Rattle.og_sql_outside.proofs.trees.+expressions.Given as goal

abbrev pub invariant-exprs_outside-exprs : goal.invariant-exprs_outside-exprs
invariant-exprs_outside-exprs l = first_in outside_expr l.expr-items ≡ first_in outside_expr (drop l.expr-index l.expr-items)
