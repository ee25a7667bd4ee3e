-- What the structs of functions stand for. Beside private functions alone.
use Rattle.std.specs.Prelude.{List, Result, Ok, Err}
use Rattle.og_value.specs.declared.schema.Column.{Column}
use Rattle.og_query.specs.declared.expression.Expr.{Expr}
use Rattle.og_check.specs.declared.cores.Shown.{Shown}
use Rattle.og_check.specs.declared.tables.Joined.{Joined}
use Rattle.og_check.specs.declared.refusal.CheckRefusal.{CheckRefusal}
use Rattle.og_check.specs.Cores.{From}

-- the items, and their columns
abbrev pub shown_in : Shown → List Expr × List Column
shown_in x = (x.exprs, x.columns.items)

-- the same where a function gave them
abbrev pub shown : Result Shown CheckRefusal → Result (List Expr × List Column) CheckRefusal
shown (Ok x) = Ok (shown_in x)
shown (Err reason) = Err reason

-- what FROM gives
abbrev pub from_in : Joined → From
from_in x = record { items = x.items; tables = x.tables; conds = x.conds }

-- the same where a function gave it
abbrev pub from_given : Result Joined CheckRefusal → Result From CheckRefusal
from_given (Ok x) = Ok (from_in x)
from_given (Err reason) = Err reason
