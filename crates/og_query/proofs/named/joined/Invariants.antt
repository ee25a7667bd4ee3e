use Rattle.std.proofs.Common.{◌≡◌, map, take}
use Rattle.og_query.specs.Tables.{rows_of, tables_in}
use Rattle.og_query.specs.Walk.{row_from}
use Rattle.og_query.proofs.named.joined.Given as goal

abbrev pub invariant-from : goal.invariant-from
invariant-from l = l.values.items ≡ row_from (map (λ table. rows_of l.names (tables_in l.tables) table.name) (take l.i l.from)) (take l.i l.places)
