use Rattle.std.proofs.Common.{◌≡◌, drop}
use Rattle.og_sql_outside.specs.Outside.{first_in, outside_expr}
use Rattle.og_sql_outside.proofs.statements.sets_outside.Given as goal

abbrev pub invariant-sets : goal.invariant-sets
invariant-sets l = first_in (λ set. outside_expr set.expr) l.sets ≡ first_in (λ set. outside_expr set.expr) (drop l.set-index l.sets)
