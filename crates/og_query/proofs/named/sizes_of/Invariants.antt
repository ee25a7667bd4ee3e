use Rattle.std.proofs.Common.{◌≡◌, length, map, take}
use Rattle.og_query.specs.Tables.{rows_of, tables_in}
use Rattle.og_query.proofs.named.sizes_of.Given as goal

abbrev pub invariant-from : goal.invariant-from
invariant-from l = l.sizes.items ≡ map (λ table. length (rows_of l.names (tables_in l.tables) table.name)) (take l.table-index l.from)
