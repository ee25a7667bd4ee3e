use Rattle.std.proofs.Common.{◌≡◌, ◌≤◌, drop, length}
use Rattle.og_check.specs.Cores.{from_of, with_table}
use Rattle.og_check.specs.Names.{schemas_in}
use Rattle.og_check.specs.Shown.{from_in}
use Rattle.og_check.specs.Steps.{in_turn}
use Rattle.og_check.proofs.tables.from_of.Given as goal

abbrev pub invariant-each : goal.invariant-each
invariant-each g l =
    (in_turn (with_table (schemas_in l.names (g.C.Catalog.known l.known))) (from_in l.from) (drop l.table-index l.tables)
    ≡ from_of (schemas_in l.names (g.C.Catalog.known l.known)) l.tables)
    × (length l.from.items ≡ l.table-index)
    × (l.table-index ≤ length l.tables)
