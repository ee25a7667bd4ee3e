use Rattle.std.proofs.Common.{◌≡◌, length, take}
use Rattle.og_view.specs.Placed.{letters, placed_from}
use Rattle.og_view.proofs.placed.placed_tables.Given as goal

abbrev pub invariant-tables : goal.invariant-tables
invariant-tables l = (l.letters.items ≡ letters (length (take l.table-index l.tables))) × (l.placed ≡ placed_from 0 (take l.table-index l.tables))
