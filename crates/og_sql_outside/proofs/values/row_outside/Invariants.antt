use Rattle.std.proofs.Common.{◌≡◌, drop}
use Rattle.og_sql_outside.specs.Outside.{first_in, outside_value}
use Rattle.og_sql_outside.proofs.values.row_outside.Given as goal

abbrev pub invariant-values : goal.invariant-values
invariant-values l = first_in outside_value l.row ≡ first_in outside_value (drop l.i l.row)
