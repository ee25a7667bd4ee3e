use Rattle.std.proofs.Common.{◌≡◌, drop}
use Rattle.og_check.specs.Statements.{tuple_of}
use Rattle.og_check.specs.Steps.{on_each}
use Rattle.og_check.proofs.changes.rows_agree.Given as goal

abbrev pub invariant-each : goal.invariant-each
invariant-each l = on_each (tuple_of l.columns) (drop l.row-index l.rows) ≡ on_each (tuple_of l.columns) l.rows
