-- The parts of the checks of a SELECT. Beside private functions alone.
use Rattle.std.specs.Prelude.{◌++◌, List, Result, Ok, Err, map}
use Rattle.og_value.specs.declared.schema.Column.{Column}
use Rattle.og_syntax.specs.declared.tree.CoreText.{CoreText}
use Rattle.og_syntax.specs.declared.tree.ItemsText.{ItemsText}
use Rattle.og_query.specs.Fits.{Schemas}
use Rattle.og_query.specs.declared.expression.Expr.{Expr}
use Rattle.og_query.specs.declared.condition.Cond.TheVariants as c
use Rattle.og_query.specs.declared.query.Core.{Core}
use Rattle.og_check.specs.declared.cores.Selected.{Selected}
use Rattle.og_check.specs.declared.tables.Joined.{Joined}
use Rattle.og_check.specs.declared.refusal.CheckRefusal.{CheckRefusal}
use Rattle.og_check.specs.Steps.{Checked, ◌>>=◌, pure, in_order}
use Rattle.og_check.specs.Sight.{Item}
use Rattle.og_check.specs.Expressions.{conds_of}
use Rattle.og_check.specs.Cores.{From, sees, semi_of, items_of, columns_of, exprs_of, schema_of}

-- the items of SELECT, and their columns as a schema
abbrev pub shown_of : List Item → ItemsText → Checked (List Expr × List Column)
shown_of items list = do
  shown ← items_of items list
  schema ← schema_of (columns_of shown)
  pure (exprs_of shown, schema)

-- a SELECT after FROM
abbrev pub after_from : Schemas → CoreText → From → Checked Core
after_from schemas core from = do
  conds ← conds_of (sees from.items) core.cond
  semis ← in_order (map (semi_of schemas from.items) core.semis)
  items ← items_of from.items core.items
  schema ← schema_of (columns_of items)
  pure (record { tables = from.tables; cond = c.And (from.conds ++ conds); semis = semis; items = exprs_of items; schema = schema })

-- the SELECT of what FROM and the rest gave
abbrev pub core_in : Joined → Result Selected CheckRefusal → Result Core CheckRefusal
core_in from (Ok x) = Ok (record { tables = from.tables; cond = c.And from.conds; semis = x.semis; items = x.exprs; schema = x.schema })
core_in from (Err reason) = Err reason
