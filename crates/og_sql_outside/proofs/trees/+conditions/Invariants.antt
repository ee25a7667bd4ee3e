use Rattle.std.proofs.Common.{◌≡◌, drop}
use Rattle.og_sql_outside.specs.Outside.{first_in, outside_cond}
use Rattle.og_sql_outside.proofs.trees.+conditions.Given as goal

abbrev pub invariant-conds_outside-conds : goal.invariant-conds_outside-conds
invariant-conds_outside-conds l = first_in outside_cond l.cond-items ≡ first_in outside_cond (drop l.cond-index l.cond-items)
