-- The workers of commands, and the scripts of `at` and `load`, as trees.
use Rattle.std.specs.Prelude.{◌+◌, ◌*◌, ◌%◌, ◌==◌, ◌++◌, ℕ, ℤ, pos, List, [], ◌∷◌, Some, None, map, codes, if◌then◌else◌}
use Rattle.std.specs.List.{range_with_len}
use Rattle.og_base.specs.Calendar.{last_day}
use Rattle.og_time.specs.Point.{Point}
use Rattle.og_value.specs.declared.kind.Kind.TheVariants as kinds
use Rattle.og_value.specs.declared.schema.Column.{Column}
use Rattle.og_value.specs.declared.term.Pred.TheVariants as preds
use Rattle.og_value.specs.declared.value.Value.{Value}
use Rattle.og_value.specs.declared.value.Value.TheVariants as v
use Rattle.og_syntax.specs.declared.tree.CondText.{CondText}
use Rattle.og_syntax.specs.declared.tree.CondText.TheVariants as c
use Rattle.og_syntax.specs.declared.tree.ItemText.{ItemText}
use Rattle.og_syntax.specs.declared.tree.ItemsText.TheVariants as i
use Rattle.og_syntax.specs.declared.tree.FromText.{FromText}
use Rattle.og_syntax.specs.declared.tree.QueryText.{QueryText}
use Rattle.og_syntax.specs.declared.tree.Stmt.{Stmt}
use Rattle.og_syntax.specs.declared.tree.Stmt.TheVariants as s
use Rattle.og_syntax.specs.Clauses.{column_of, item_of, table_of, core_of, query_of}
use Rattle.og_words.specs.declared.command.Command.{Command}
use Rattle.og_words.specs.declared.command.Command.TheVariants as commands
use Rattle.og_script.specs.declared.load.Side.{Side}
use Rattle.og_script.specs.declared.load.Side.TheVariants as side

-- ---- the workers

-- how many workers the command asks for
abbrev pub asked : Command → ℕ
asked (commands.Run workers) = workers
asked (commands.At file day) = 1
asked (commands.Load rows workers) = workers

-- ---- the command at

-- OPEN r FROM the file, and PRINT r AS OF the day
unfoldable pub at_script : List ℕ → ℤ → List Stmt
at_script file day = s.OpenFile (codes "r") file ∷ s.PrintName (codes "r") day ∷ []

-- ---- the command load: days and points

-- D(k): the number of the day so many days after 2000-01-01
unfoldable pub load_day : ℕ → ℤ
load_day k = pos (10_957 + k)

-- the point D(j)+D(k); where j is k it is the day D(k) itself
unfoldable pub load_point : ℕ → ℕ → Point
load_point j k = record { low = load_day j; high = load_day k }

-- ---- the command load: the two tables

-- lefts and rights
unfoldable pub load_name : Side → List ℕ
load_name side.Lefts = codes "lefts"
load_name side.Rights = codes "rights"

-- the columns id INT and vt PERIOD
unfoldable pub load_columns : List Column
load_columns = record { name = codes "id"; kind = kinds.Int } ∷ record { name = codes "vt"; kind = kinds.Period } ∷ []

-- where the period of the row i starts: in lefts at D(2i), in rights at D(2i+1)
unfoldable pub load_start : Side → ℕ → Point
load_start side.Lefts i = load_point (2 * i) (2 * i)
load_start side.Rights i = load_point (2 * i + 1) (2 * i + 1)

-- where it ends: in lefts at D(2i+1), or at D(2i+1)+D(2i+2) where i is a multiple of 1000, and in rights at D(2i+2)
unfoldable pub load_end : Side → ℕ → Point
load_end side.Lefts i = if (i % 1000) == 0 then load_point (2 * i + 1) (2 * i + 2) else load_point (2 * i + 1) (2 * i + 1)
load_end side.Rights i = load_point (2 * i + 2) (2 * i + 2)

-- the row i: the number i, and its period
unfoldable pub load_row : Side → ℕ → List Value
load_row of i = v.Int (pos i) ∷ v.Period (record { start = load_start of i; end = load_end of i }) ∷ []

-- the rows from 0 on, so many
unfoldable pub load_rows : Side → ℕ → List (List Value)
load_rows of n = map (load_row of) (range_with_len 0 n)

-- CREATE TABLE and INSERT INTO one of the two tables
unfoldable pub load_table : Side → ℕ → List Stmt
load_table of n = s.Create (load_name of) load_columns ∷ s.Insert (load_name of) (load_rows of n) ∷ []

-- ---- the command load: the query

-- SELECT x.id AS l, y.id AS r
unfoldable pub load_items : List ItemText
load_items =
    item_of (column_of (codes "x") (Some (codes "id"))) (Some (codes "l"))
    ∷ item_of (column_of (codes "y") (Some (codes "id"))) (Some (codes "r"))
    ∷ []

-- x.vt OVERLAPS y.vt
unfoldable pub load_cond : CondText
load_cond = c.Relate preds.Overlaps (column_of (codes "x") (Some (codes "vt"))) (column_of (codes "y") (Some (codes "vt")))

-- FROM lefts x JOIN rights y ON the condition
unfoldable pub load_tables : List FromText
load_tables = table_of (codes "lefts", Some (codes "x")) None ∷ table_of (codes "rights", Some (codes "y")) (Some load_cond) ∷ []

-- the query of these, without WHERE
unfoldable pub load_query : QueryText
load_query = query_of (core_of (i.List load_items) load_tables None) []

-- ---- the command load: the script

-- KEEP hits AS the query, PRINT hits AS OF D(N), and PRINT the query AS OF 9999-12-31
unfoldable pub load_answers : ℕ → List Stmt
load_answers n = s.Keep (codes "hits") load_query ∷ s.PrintName (codes "hits") (load_day n) ∷ s.PrintQuery load_query last_day ∷ []

-- the two tables of so many rows, and what is asked of them
unfoldable pub load_script : ℕ → List Stmt
load_script n = load_table side.Lefts n ++ load_table side.Rights n ++ load_answers n
