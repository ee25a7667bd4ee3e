use Rattle.std.proofs.Common.{◌≡◌, drop}
use Rattle.og_sql_outside.specs.Outside.{first_in, outside_range}
use Rattle.og_sql_outside.proofs.values.days_outside.Given as goal

abbrev pub invariant-days : goal.invariant-days
invariant-days l = first_in outside_range l.days ≡ first_in outside_range (drop l.i l.days)
