-- What statements are made of, as the parts of their checks give it. Beside private functions alone.
use Rattle.std.specs.Prelude.{ℕ, List, Option, length}
use Rattle.og_value.specs.Limits.{max_columns}
use Rattle.og_value.specs.declared.schema.Column.{Column}
use Rattle.og_value.specs.declared.value.Value.{Value}
use Rattle.og_syntax.specs.declared.tree.CondText.{CondText}
use Rattle.og_syntax.specs.declared.tree.QueryText.{QueryText}
use Rattle.og_query.specs.Fits.{Known, Schemas}
use Rattle.og_query.specs.declared.condition.Cond.{Cond}
use Rattle.og_query.specs.declared.query.Query.{Query}
use Rattle.og_check.specs.Steps.{Checked, ◌>>=◌, ◌>>◌, pure, on_each, within}
use Rattle.og_check.specs.Expressions.{where_of}
use Rattle.og_check.specs.Cores.{query_of}
use Rattle.og_check.specs.Statements.{new_name, new_columns, table_columns, tuple_of, sees_table}

-- the columns of CREATE TABLE
abbrev pub new_schema : List Column → Checked (List Column)
new_schema columns = do within max_columns (length columns); new_columns columns

-- a table, and tuples for it
abbrev pub tuples_agree : Known → List ℕ → List (List Value) → Checked (Unit {0})
tuples_agree known name rows = do columns ← table_columns known name; on_each (tuple_of columns) rows

-- the name of a table, and a condition on its columns
abbrev pub named_where : List ℕ → List Column → Option CondText → Checked (List ℕ × Cond)
named_where name columns cond = do x ← where_of (sees_table name columns) cond; pure (name, x)

-- a new name, and a query
abbrev pub named_query : Known → Schemas → List ℕ → QueryText → Checked (List ℕ × Query)
named_query known schemas name query = do new_name known name; q ← query_of schemas query; pure (name, q)
