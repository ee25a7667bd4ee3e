-- Live results on a day.
use Rattle.std.specs.Prelude.{ℤ, List}
use Rattle.og_value.specs.declared.kind.What.{What}
use Rattle.og_query.specs.Queries.{Fixed, ordinary_query}
use Rattle.og_db.specs.Held.{Held}
use Rattle.og_db.specs.Live.{Live}
use Rattle.og_db.specs.Statements.{Names, named_rows}

-- the name of a live result, as what it is now, with the columns of its query and the rows that this query has over the names of that day
abbrev pub live_result : What → ℤ → Names → Live → Held (List Fixed)
live_result is d names l = record { name = l.name; what = is; columns = l.query.first.schema; rows = ordinary_query d (named_rows names) l.query }
