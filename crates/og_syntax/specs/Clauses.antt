-- The trees of the parts of a query.
use Rattle.std.specs.Prelude.{ℕ, Bool, List, [], ◌∷◌, Option, Some, None}
use Rattle.og_value.specs.declared.term.SetOp.{SetOp}
use Rattle.og_syntax.specs.declared.tree.ExprText.{ExprText}
use Rattle.og_syntax.specs.declared.tree.ExprText.TheVariants as e
use Rattle.og_syntax.specs.declared.tree.CondText.{CondText}
use Rattle.og_syntax.specs.declared.tree.CondText.TheVariants as c
use Rattle.og_syntax.specs.declared.tree.ItemText.{ItemText}
use Rattle.og_syntax.specs.declared.tree.ItemsText.{ItemsText}
use Rattle.og_syntax.specs.declared.tree.FromText.{FromText}
use Rattle.og_syntax.specs.declared.tree.SemiText.{SemiText}
use Rattle.og_syntax.specs.declared.tree.CoreText.{CoreText}
use Rattle.og_syntax.specs.declared.tree.RestText.{RestText}
use Rattle.og_syntax.specs.declared.tree.QueryText.{QueryText}

-- one by itself, or the list of several that are joined by AND
abbrev pub all_of : List CondText → CondText
all_of (x ∷ []) = x
all_of xs = c.And xs

-- one by itself, or the list of several that are joined by OR
abbrev pub any_of : List CondText → CondText
any_of (x ∷ []) = x
any_of xs = c.Or xs

-- a name and its alias
abbrev pub Aliased : Type 0
Aliased = List ℕ × Option (List ℕ)

-- an item of SELECT, with the name that AS gives it
abbrev pub item_of : ExprText → Option (List ℕ) → ItemText
item_of x name = record { expr = x; name = name }

-- a table of FROM, with its condition where it stands after JOIN
abbrev pub table_of : Aliased → Option CondText → FromText
table_of x on = record { name = x.0; alias = x.1; on = on }

-- a condition of EXISTS, which is positive, or of NOT EXISTS
abbrev pub semi_of : Bool → Aliased × Option CondText → SemiText
semi_of positive x = record { positive = positive; name = x.0.0; alias = x.0.1; cond = x.1 }

-- what stands after WHERE: a condition, and the conditions of EXISTS and NOT EXISTS
abbrev pub Where : Type 0
Where = Option CondText × List SemiText

-- conditions with AND after each, as one
abbrev pub before_semis : List CondText → Option CondText
before_semis [] = None
before_semis (x ∷ xs) = Some (all_of (x ∷ xs))

-- a SELECT, whose WHERE may be missing
abbrev pub core_of : ItemsText → List FromText → Option Where → CoreText
core_of items tables (Some w) = record { items = items; tables = tables; cond = w.0; semis = w.1 }
core_of items tables None = record { items = items; tables = tables; cond = None; semis = [] }

-- a further core after its operator
abbrev pub rest_of : SetOp → CoreText → RestText
rest_of op core = record { op = op; core = core }

-- a query of a first core and further ones
abbrev pub query_of : CoreText → List RestText → QueryText
query_of first rest = record { first = first; rest = rest }

-- a column by its own name, or by its table's name and its own
abbrev pub column_of : List ℕ → Option (List ℕ) → ExprText
column_of x (Some y) = e.Column (Some x) y
column_of x None = e.Column None x
