-- First fault of a statement: the checks of each statement, in their order.
use Rattle.std.specs.Prelude.{◌==◌, ◌++◌, ℕ, ℤ, not, List, [], ◌∷◌, Option, Some, None, Err, map, length}
use Rattle.std.specs.List.{list_any}
use Rattle.std.specs.Str.{bytes_eq}
use Rattle.og_value.specs.Cells.{kind_of}
use Rattle.og_value.specs.Limits.{max_columns}
use Rattle.og_value.specs.declared.kind.What.{What}
use Rattle.og_value.specs.declared.schema.Column.{Column}
use Rattle.og_value.specs.declared.value.Value.{Value}
use Rattle.og_syntax.specs.declared.tree.CondText.{CondText}
use Rattle.og_syntax.specs.declared.tree.QueryText.{QueryText}
use Rattle.og_syntax.specs.declared.tree.SetText.{SetText}
use Rattle.og_syntax.specs.declared.tree.Stmt.{Stmt}
use Rattle.og_syntax.specs.declared.tree.Stmt.TheVariants as s
use Rattle.og_query.specs.Kinds.{kinds_of}
use Rattle.og_query.specs.Fits.{Known, schemas_of, tables_of}
use Rattle.og_query.specs.declared.typed.Assign.{Assign}
use Rattle.og_query.specs.declared.typed.Typed.{Typed}
use Rattle.og_query.specs.declared.typed.Typed.TheVariants as t
use Rattle.og_check.specs.declared.refusal.CheckRefusal.TheVariants as r
use Rattle.og_check.specs.Steps.{Checked, ◌>>=◌, ◌>>◌, pure, in_turn, on_each, unless, agree, same_kind, within}
use Rattle.og_check.specs.Sight.{Sight, found}
use Rattle.og_check.specs.Expressions.{expr_of, where_of}
use Rattle.og_check.specs.Cores.{known_columns, sees, query_of}

-- nothing is known of the name
abbrev pub not_known : List ℕ → Option (What × List Column) → Checked (Unit {0})
not_known name None = pure tt
not_known name (Some known) = Err (r.NameTaken name)

-- the name is not known
abbrev pub new_name : Known → List ℕ → Checked (Unit {0})
new_name known name = not_known name (known name)

-- none of the columns has the name
abbrev pub new_column : List ℕ → List Column → Checked (Unit {0})
new_column name before = unless (not (list_any (λ other. bytes_eq other.name name) before)) (r.NameTaken name)

-- columns with one more, which has another name than those before it
abbrev pub with_column : List Column → Column → Checked (List Column)
with_column before column = do new_column column.name before; pure (before ++ column ∷ [])

-- columns, each with another name than those before it
abbrev pub new_columns : List Column → Checked (List Column)
new_columns columns = in_turn with_column [] columns

-- the columns of a table, which has to be one
abbrev pub table_columns : Known → List ℕ → Checked (List Column)
table_columns known name = known_columns name (tables_of known name)

-- the columns of a name, whatever it is
abbrev pub named_columns : Known → List ℕ → Checked (List Column)
named_columns known name = known_columns name (schemas_of known name)

-- a tuple, which has a value of the kind of each column
abbrev pub tuple_of : List Column → List Value → Checked (Unit {0})
tuple_of columns row = agree (map kind_of row) (kinds_of columns)

-- an assignment after those before: the column, that it is set once, the expression and its kind
abbrev pub set_of : Sight → List Assign → SetText → Checked Assign
set_of sight before set = do
  column ← found sight None set.column
  unless (not (list_any (λ other. other.column == column.0) before)) (r.NameTaken set.column)
  value ← expr_of sight set.expr
  same_kind value.1 column.1
  pure (record { column = column.0; expr = value.0 })

-- assignments with one more
abbrev pub with_set : Sight → List Assign → SetText → Checked (List Assign)
with_set sight before set = do one ← set_of sight before set; pure (before ++ one ∷ [])

-- assignments, from the left
abbrev pub sets_of : Sight → List SetText → Checked (List Assign)
sets_of sight sets = in_turn (with_set sight) [] sets

-- the columns of one table, whose name is its alias
abbrev pub sees_table : List ℕ → List Column → Sight
sees_table name columns = sees ((name, columns) ∷ [])

-- CREATE TABLE: a new name, the number of the columns, and their names
abbrev pub create : Known → List ℕ → List Column → Checked Typed
create known name columns = do new_name known name; within max_columns (length columns); xs ← new_columns columns; pure (t.Create name xs)

-- INSERT: a table, and the tuples in order
abbrev pub insert : Known → List ℕ → List (List Value) → Checked Typed
insert known name rows = do columns ← table_columns known name; on_each (tuple_of columns) rows; pure (t.Insert name rows)

-- DELETE: a table, and the condition
abbrev pub delete : Known → List ℕ → Option CondText → Checked Typed
delete known name cond = do columns ← table_columns known name; x ← where_of (sees_table name columns) cond; pure (t.Delete name x)

-- UPDATE: a table, the assignments in order, and the condition
abbrev pub update : Known → List ℕ → List SetText → Option CondText → Checked Typed
update known name sets cond = do
  columns ← table_columns known name
  xs ← sets_of (sees_table name columns) sets
  x ← where_of (sees_table name columns) cond
  pure (t.Update name xs x)

-- DROP: a known name
abbrev pub drop_name : Known → List ℕ → Checked Typed
drop_name known name = do named_columns known name; pure (t.Drop name)

-- KEEP: a new name, and the query
abbrev pub keep : Known → List ℕ → QueryText → Checked Typed
keep known name query = do new_name known name; q ← query_of (schemas_of known) query; pure (t.Keep name q)

-- PRINT of a known name
abbrev pub print_name : Known → List ℕ → ℤ → Checked Typed
print_name known name day = do named_columns known name; pure (t.PrintName name day)

-- PRINT of a query
abbrev pub print_query : Known → QueryText → ℤ → Checked Typed
print_query known query day = do q ← query_of (schemas_of known) query; pure (t.PrintQuery q day)

-- SAVE: a known name
abbrev pub save : Known → List ℕ → List ℕ → Checked Typed
save known name file = do named_columns known name; pure (t.Save name file)

-- OPEN: a new name
abbrev pub open_file : Known → List ℕ → List ℕ → Checked Typed
open_file known name file = do new_name known name; pure (t.OpenFile name file)

-- IMPORT: a table
abbrev pub import_file : Known → List ℕ → List ℕ → Checked Typed
import_file known name file = do table_columns known name; pure (t.ImportFile name file)

-- EXPLAIN: the query
abbrev pub explain : Known → QueryText → Checked Typed
explain known query = do q ← query_of (schemas_of known) query; pure (t.Explain q)

-- VALID: a known name
abbrev pub valid : Known → List ℕ → ℤ → Checked Typed
valid known name day = do named_columns known name; pure (t.Valid name day)

-- LIVE: a new name, and the query, which asks tables alone
abbrev pub live : Known → List ℕ → QueryText → Checked Typed
live known name query = do new_name known name; q ← query_of (tables_of known) query; pure (t.Live name q)

-- first fault of a statement, or the typed statement where it has none
abbrev pub checked : Known → Stmt → Checked Typed
checked known (s.Create name columns) = create known name columns
checked known (s.Insert name rows) = insert known name rows
checked known (s.Delete name cond) = delete known name cond
checked known (s.Update name sets cond) = update known name sets cond
checked known (s.Drop name) = drop_name known name
checked known s.Tables = pure t.Tables
checked known (s.Keep name query) = keep known name query
checked known (s.PrintName name day) = print_name known name day
checked known (s.PrintQuery query day) = print_query known query day
checked known (s.Save name file) = save known name file
checked known (s.OpenFile name file) = open_file known name file
checked known (s.ImportFile name file) = import_file known name file
checked known (s.Explain query) = explain known query
checked known (s.Valid name day) = valid known name day
checked known (s.Live name query) = live known name query
