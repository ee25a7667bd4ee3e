-- The checks of a SELECT and of a query, in their order.
use Rattle.std.specs.Prelude.{◌+◌, ◌++◌, ℕ, not, List, [], ◌∷◌, Option, Some, None, Err, map, length, codes}
use Rattle.std.specs.Fmt.{decimal}
use Rattle.std.specs.List.{list_any}
use Rattle.std.specs.Str.{bytes_eq}
use Rattle.og_value.specs.Limits.{max_columns}
use Rattle.og_value.specs.declared.schema.Column.{Column}
use Rattle.og_syntax.specs.declared.tree.ExprText.{ExprText, out-ExprText}
use Rattle.og_syntax.specs.declared.tree.ExprText.TheOpen as text
use Rattle.og_syntax.specs.declared.tree.FromText.{FromText}
use Rattle.og_syntax.specs.declared.tree.SemiText.{SemiText}
use Rattle.og_syntax.specs.declared.tree.ItemText.{ItemText}
use Rattle.og_syntax.specs.declared.tree.ItemsText.{ItemsText}
use Rattle.og_syntax.specs.declared.tree.ItemsText.TheVariants as items_
use Rattle.og_syntax.specs.declared.tree.CoreText.{CoreText}
use Rattle.og_syntax.specs.declared.tree.RestText.{RestText}
use Rattle.og_syntax.specs.declared.tree.QueryText.{QueryText}
use Rattle.og_query.specs.Kinds.{kinds_of}
use Rattle.og_query.specs.Fits.{Schemas}
use Rattle.og_query.specs.declared.expression.Expr.{Expr}
use Rattle.og_query.specs.declared.expression.Expr.TheVariants as e
use Rattle.og_query.specs.declared.condition.Cond.{Cond}
use Rattle.og_query.specs.declared.condition.Cond.TheVariants as c
use Rattle.og_query.specs.declared.query.From1.{From1}
use Rattle.og_query.specs.declared.query.Semi.{Semi}
use Rattle.og_query.specs.declared.query.Core.{Core}
use Rattle.og_query.specs.declared.query.Rest.{Rest}
use Rattle.og_query.specs.declared.query.Query.{Query}
use Rattle.og_check.specs.declared.refusal.CheckRefusal.TheVariants as r
use Rattle.og_check.specs.Limits.{max_tables}
use Rattle.og_check.specs.Steps.{Checked, ◌>>=◌, ◌>>◌, pure, in_order, in_turn, unless, agree, within}
use Rattle.og_check.specs.Sight.{Item, Sight, joined}
use Rattle.og_check.specs.Expressions.{expr_of, conds_of, where_of}

-- the columns of a name, which has to be known
abbrev pub known_columns : List ℕ → Option (List Column) → Checked (List Column)
known_columns name (Some columns) = pure columns
known_columns name None = Err (r.NoSuchName name)

-- the alias, or the name where there is none
abbrev pub alias_of : List ℕ → Option (List ℕ) → List ℕ
alias_of name (Some alias) = alias
alias_of name None = name

-- none of the items has the alias
abbrev pub unused : List ℕ → List Item → Checked (Unit {0})
unused alias items = unless (not (list_any (λ item. bytes_eq item.0 alias) items)) (r.NameTaken alias)

-- the columns of a core's items alone
abbrev pub sees : List Item → Sight
sees items = record { core = items; sub = [] }

-- the columns of a core's items, and of the item of a `sub`
abbrev pub sees_sub : List Item → Item → Sight
sees_sub items item = record { core = items; sub = item ∷ [] }

-- what FROM gives: the items that are seen, the tables, and the conditions of ON
pub record From : Type 0 where
  pub items : List Item
  pub tables : List From1
  pub conds : List Cond

-- FROM without tables
abbrev pub no_tables : From
no_tables = record { items = []; tables = []; conds = [] }

-- with one more table: its name, its alias, and its condition of ON, which sees the items so far
abbrev pub with_table : Schemas → From → FromText → Checked From
with_table schemas from t = do
  columns ← known_columns t.name (schemas t.name)
  unused (alias_of t.name t.alias) from.items
  conds ← conds_of (sees (from.items ++ (alias_of t.name t.alias, columns) ∷ [])) t.on
  pure (record {
    items = from.items ++ (alias_of t.name t.alias, columns) ∷ [];
    tables = from.tables ++ record { name = t.name; schema = columns } ∷ [];
    conds = from.conds ++ conds;
  })

-- FROM: its tables from the left
abbrev pub from_of : Schemas → List FromText → Checked From
from_of schemas tables = in_turn (with_table schemas) no_tables tables

-- EXISTS and NOT EXISTS: the name, the alias and the condition
abbrev pub semi_of : Schemas → List Item → SemiText → Checked Semi
semi_of schemas items s = do
  columns ← known_columns s.name (schemas s.name)
  unused (alias_of s.name s.alias) items
  cond ← where_of (sees_sub items (alias_of s.name s.alias, columns)) s.cond
  pure (record { positive = s.positive; table = record { name = s.name; schema = columns }; cond = cond })

-- the name of the n-th item's column where none stands after AS: the column's own, or c and the number
abbrev pub own_name : ℕ → text.ExprText-F ExprText → List ℕ
own_name n (text.Column table name) = name
own_name n _ = codes "c" ++ decimal n

-- the name of the n-th item's column: the one after AS, or its own
abbrev pub item_name : ℕ → ItemText → List ℕ
item_name n item = alias_of (own_name n (out-ExprText item.expr)) item.name

-- an item and its column
abbrev pub Shown : Type 0
Shown = Expr × Column

-- the n-th item
abbrev pub item_of : Sight → ℕ → ItemText → Checked Shown
item_of sight n item = do x ← expr_of sight item.expr; pure (x.0, record { name = item_name n item; kind = x.1 })

-- each item, of which the first is the n-th
abbrev pub items_from : Sight → ℕ → List ItemText → List (Checked Shown)
items_from sight n [] = []
items_from sight n (item ∷ items) = item_of sight n item ∷ items_from sight (n + 1) items

-- each column, from a place on, as an item
abbrev pub star_from : ℕ → List Column → List Shown
star_from place [] = []
star_from place (column ∷ columns) = (e.Column place, column) ∷ star_from (place + 1) columns

-- the items of SELECT: * gives all columns of the core's items
abbrev pub items_of : List Item → ItemsText → Checked (List Shown)
items_of items items_.Star = pure (star_from 0 (joined items))
items_of items (items_.List list) = in_order (items_from (sees items) 1 list)

-- the expressions of items
abbrev pub exprs_of : List Shown → List Expr
exprs_of items = map (λ x. x.0) items

-- the columns of items
abbrev pub columns_of : List Shown → List Column
columns_of items = map (λ x. x.1) items

-- columns as a schema, which has at least one, and at most so many as a schema may have
abbrev pub schema_of : List Column → Checked (List Column)
schema_of columns = do within max_columns (length columns); pure columns

-- a SELECT: the number of its tables, FROM, WHERE, its semis, its items and their number
abbrev pub core_of : Schemas → CoreText → Checked Core
core_of schemas core = do
  within max_tables (length core.tables)
  from ← from_of schemas core.tables
  conds ← conds_of (sees from.items) core.cond
  semis ← in_order (map (semi_of schemas from.items) core.semis)
  items ← items_of from.items core.items
  schema ← schema_of (columns_of items)
  pure (record { tables = from.tables; cond = c.And (from.conds ++ conds); semis = semis; items = exprs_of items; schema = schema })

-- a further SELECT, whose columns agree with those of the first
abbrev pub rest_of : Schemas → Core → RestText → Checked Rest
rest_of schemas first rest = do
  core ← core_of schemas rest.core
  agree (kinds_of core.schema) (kinds_of first.schema)
  pure (record { op = rest.op; core = core })

-- a query, from the left
abbrev pub query_of : Schemas → QueryText → Checked Query
query_of schemas query = do
  first ← core_of schemas query.first
  rest ← in_order (map (rest_of schemas first) query.rest)
  pure (record { first = first; rest = rest })
