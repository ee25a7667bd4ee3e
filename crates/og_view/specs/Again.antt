-- The rows of a core that pass tests.
use Rattle.std.specs.Prelude.{ℤ, List, filter, map}
use Rattle.og_query.specs.Queries.{Fixed}
use Rattle.og_query.specs.declared.query.Core.{Core}
use Rattle.og_exec.specs.Tables.{Relations, rows_at}
use Rattle.og_view.specs.Rows.{rows_over}
use Rattle.og_reduce.specs.Sieves.{Test, passes}

-- the rows of a core on a day that pass tests
abbrev pub passing_rows : ℤ → Relations → List Test → Core → List Fixed
passing_rows d named tests core = filter (passes tests) (rows_over d core (map (λ table. rows_at named d table.name) core.tables))
