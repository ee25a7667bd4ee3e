use Rattle.std.proofs.Common.{◌≡◌, ℤ, true, take}
use Rattle.std.specs.List.{list_all}
use Rattle.og_query.specs.Queries.{meets}
use Rattle.og_query.specs.Tables.{rows_of, tables_in}
use Rattle.og_query.proofs.kept.meets_all.Given as goal

abbrev pub invariant-semis : goal.invariant-semis
invariant-semis l = (d : ℤ) → list_all (meets d (rows_of l.names (tables_in l.tables)) l.row) (take l.semi-index l.semis) ≡ true
