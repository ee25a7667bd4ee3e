-- The words of queries.
use Rattle.std.specs.Prelude.{ℕ, Bool, true, false, ◌==◌, length, if◌then◌else◌, List, [], ◌∷◌, ◌++◌, Option, Some, None}
use Rattle.og_value.specs.declared.term.SetOp.{SetOp}
use Rattle.og_value.specs.declared.term.SetOp.TheVariants as op
use Rattle.og_syntax.specs.declared.lexeme.Sort.{Sort}
use Rattle.og_syntax.specs.declared.lexeme.Sort.TheVariants as k
use Rattle.og_syntax.specs.declared.tree.CondText.{CondText}
use Rattle.og_syntax.specs.declared.tree.ItemText.{ItemText}
use Rattle.og_syntax.specs.declared.tree.ItemsText.{ItemsText}
use Rattle.og_syntax.specs.declared.tree.ItemsText.TheVariants as i
use Rattle.og_syntax.specs.declared.tree.FromText.{FromText}
use Rattle.og_syntax.specs.declared.tree.SemiText.{SemiText}
use Rattle.og_syntax.specs.declared.tree.CoreText.{CoreText}
use Rattle.og_syntax.specs.declared.tree.RestText.{RestText}
use Rattle.og_syntax.specs.declared.tree.QueryText.{QueryText}
use Rattle.og_print.specs.declared.conditions.Place.TheVariants as place
use Rattle.og_print.specs.Words.{Word, Plain, Named, each, joined, behind, listed, enclosed}
use Rattle.og_print.specs.Expressions.{expr_words}
use Rattle.og_print.specs.Conditions.{cond_words}

-- the word of an operator between cores
abbrev pub op_sort : SetOp → Sort
op_sort op.Union = k.Union
op_sort op.Except = k.Except
op_sort op.Intersect = k.Intersect

-- AS and a name, or nothing
abbrev pub alias_words : Option (List ℕ) → List Word
alias_words (Some name) = Plain k.As ∷ Named name ∷ []
alias_words None = []

-- WHERE and a condition, or nothing
abbrev pub cond_clause_words : Option CondText → List Word
cond_clause_words (Some cond) = Plain k.Where ∷ cond_words cond place.Alone
cond_clause_words None = []

-- an expression, with the name that AS gives it
abbrev pub item_words : ItemText → List Word
item_words x = expr_words x.expr ++ alias_words x.name

-- items with commas between them
abbrev pub item_list_words : List ItemText → List Word
item_list_words = listed item_words

-- a star, or items with commas between them
abbrev pub items_words : ItemsText → List Word
items_words i.Star = Plain k.Star ∷ []
items_words (i.List xs) = item_list_words xs

-- a name and its alias
abbrev pub name_words : List ℕ → Option (List ℕ) → List Word
name_words name alias = Named name ∷ alias_words alias

-- the first table
abbrev pub table_words : FromText → List Word
table_words t = name_words t.name t.alias

-- what stands before a further table and after it: a comma, or JOIN and ON with a condition
abbrev pub further_words : Option CondText → List Word → List Word
further_words (Some cond) ws = Plain k.Join ∷ ws ++ Plain k.On ∷ cond_words cond place.Alone
further_words None ws = Plain k.Comma ∷ ws

-- a further table
abbrev pub further_table_words : FromText → List Word
further_table_words t = further_words t.on (table_words t)

-- the tables of FROM
abbrev pub tables_words : List FromText → List Word
tables_words = joined table_words further_table_words

-- SELECT * FROM, a name and its alias, and its condition
abbrev pub sub_words : SemiText → List Word
sub_words s = Plain k.Select ∷ Plain k.Star ∷ Plain k.From ∷ name_words s.name s.alias ++ cond_clause_words s.cond

-- EXISTS or NOT EXISTS
abbrev pub exists_words : Bool → List Word
exists_words true = Plain k.Exists ∷ []
exists_words false = Plain k.Not ∷ Plain k.Exists ∷ []

-- a condition of EXISTS or of NOT EXISTS
abbrev pub semi_words : SemiText → List Word
semi_words s = exists_words s.positive ++ enclosed (sub_words s)

-- such conditions with AND between them
abbrev pub semis_words : List SemiText → List Word
semis_words = joined semi_words (behind k.And semi_words)

-- a condition with AND after it, or nothing
abbrev pub front_words : Option CondText → List Word
front_words (Some cond) = cond_words cond place.BesideOr ++ Plain k.And ∷ []
front_words None = []

-- what stands after WHERE: a condition, conditions of EXISTS, or both with AND between them
abbrev pub where_words : Option CondText → List SemiText → List Word
where_words cond semis = if length semis == 0 then cond_clause_words cond else Plain k.Where ∷ front_words cond ++ semis_words semis

-- a SELECT
abbrev pub core_words : CoreText → List Word
core_words c = Plain k.Select ∷ items_words c.items ++ Plain k.From ∷ tables_words c.tables ++ where_words c.cond c.semis

-- a further core after its operator
abbrev pub rest_words : RestText → List Word
rest_words r = Plain (op_sort r.op) ∷ core_words r.core

-- a query
abbrev pub query_words : QueryText → List Word
query_words q = core_words q.first ++ each rest_words q.rest
