use Rattle.std.proofs.Common.{◌≡◌, drop}
use Rattle.og_sql_outside.specs.Outside.{first_in, outside_row}
use Rattle.og_sql_outside.proofs.values.rows_outside.Given as goal

abbrev pub invariant-rows : goal.invariant-rows
invariant-rows l = first_in outside_row l.rows ≡ first_in outside_row (drop l.row-index l.rows)
