use Rattle.std.proofs.Common.{◌≡◌, drop}
use Rattle.og_query.specs.Tables.{rows_of, tables_in}
use Rattle.og_query.proofs.named.rows_named.Given as goal

abbrev pub invariant-names : goal.invariant-names
invariant-names l = rows_of l.names (tables_in l.tables) l.name ≡ rows_of (drop l.i l.names) (tables_in (drop l.i l.tables)) l.name
