-- Views: queries that are kept answered.
use Rattle.std.specs.Prelude.{◌≡◌, ◌≤◌, ℤ, List, [], Option, length}
use Rattle.std.specs.List.{All}
use Rattle.og_base.specs.Calendar.{IsRefDay}
use Rattle.og_value.specs.Order.{row_order}
use Rattle.og_value.specs.Values.{row_at}
use Rattle.og_value.specs.declared.term.SetOp.TheVariants as op
use Rattle.og_rel.specs.Relations.{relation_at}
use Rattle.og_query.specs.Fits.{IsFitQuery, tables_of}
use Rattle.og_query.specs.Queries.{ordinary_query}
use Rattle.og_query.specs.Sizes.{query_size}
use Rattle.og_query.specs.declared.query.Query.{Query}
use Rattle.og_query.specs.declared.query.Rest.{Rest}
use Rattle.og_exec.specs.Tables.{rows_at, sizes_of}
use Rattle.og_db.specs.Database.{Relation, HaveKinds}
use Rattle.og_db.specs.Held.{Held, known_of, rows_of}
use Rattle.og_db.specs.Statements.{or_else}

-- a further core is added by UNION, and has no EXISTS
abbrev pub IsLiveRest : Rest → Type 0
IsLiveRest rest = (rest.op ≡ op.Union) × (rest.core.semis ≡ [])

-- the query of a live result: cores without EXISTS, one added to the other by UNION
pub record IsLiveQuery (query : Query) : Type 0 where
  pub first : query.first.semis ≡ []
  pub rest : All IsLiveRest query.rest

-- a view: its query, the result, and what the result is to be next, where it has followed a delta
pub record Seen : Type 0 where
  pub query : Query
  pub result : Relation
  pub next : Option Relation

-- the view of a query, of a result, and of what it is to be
abbrev pub seen : Query → Relation → Option Relation → Seen
seen query result next = record { query = query; result = result; next = next }

-- what the result is to be: as it is, where nothing was followed
abbrev pub to_be : Seen → Relation
to_be view = or_else view.result view.next

-- a relation is the answer of the query of a live result over tables: the query fits them, and on each day the relation has the rows of the query over the tables of
-- that day; its rows fit the columns of the query, and there are no more than its size
pub record IsAnswerOver (tables : List (Held Relation)) (query : Query) (rel : Relation) : Type 0 where
  pub live : IsLiveQuery query
  pub fits : IsFitQuery (tables_of (known_of tables)) query
  pub law : (d : ℤ) → IsRefDay d → relation_at row_order row_at rel d ≡ ordinary_query d (rows_at (rows_of tables) d) query
  pub size : length rel ≤ query_size (sizes_of (rows_of tables)) query
  pub kinds : HaveKinds query.first.schema rel
