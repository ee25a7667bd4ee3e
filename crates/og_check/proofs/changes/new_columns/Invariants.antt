use Rattle.std.proofs.Common.{◌≡◌, drop, take}
use Rattle.og_check.specs.Statements.{new_columns, with_column}
use Rattle.og_check.specs.Steps.{in_turn}
use Rattle.og_check.proofs.changes.new_columns.Given as goal

abbrev pub invariant-each : goal.invariant-each
invariant-each l = (in_turn with_column l.new.items (drop l.column-index l.columns) ≡ new_columns l.columns) × (l.new.items ≡ take l.column-index l.columns)
