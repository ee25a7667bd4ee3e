-- The readers of the grammar, one for each of its rules. The script's bytes stand behind the lexemes.
use Rattle.std.specs.Prelude.{ℕ, zero, suc, Bool, List, [], ◌∷◌, Option, Some, None, length, drop, ◌&&◌, ◌||◌, not, true, false}
use Rattle.og_lex.specs.Front.{content_at}
use Rattle.og_value.specs.declared.value.Value.{Value}
use Rattle.og_value.specs.declared.value.Value.TheVariants as v
use Rattle.og_value.specs.declared.term.Func.TheVariants as func
use Rattle.og_syntax.specs.declared.lexeme.Sort.{Sort}
use Rattle.og_syntax.specs.declared.lexeme.Sort.TheVariants as k
use Rattle.og_syntax.specs.declared.lexeme.Lexeme.{Lexeme}
use Rattle.og_syntax.specs.declared.tree.ExprText.{ExprText}
use Rattle.og_syntax.specs.declared.tree.ExprText.TheVariants as e
use Rattle.og_syntax.specs.declared.tree.CondText.{CondText}
use Rattle.og_syntax.specs.declared.tree.CondText.TheVariants as c
use Rattle.og_syntax.specs.declared.tree.ItemText.{ItemText}
use Rattle.og_syntax.specs.declared.tree.ItemsText.{ItemsText}
use Rattle.og_syntax.specs.declared.tree.ItemsText.TheVariants as i
use Rattle.og_syntax.specs.declared.tree.FromText.{FromText}
use Rattle.og_syntax.specs.declared.tree.SemiText.{SemiText}
use Rattle.og_syntax.specs.declared.tree.CoreText.{CoreText}
use Rattle.og_syntax.specs.declared.tree.RestText.{RestText}
use Rattle.og_syntax.specs.declared.tree.QueryText.{QueryText}
use Rattle.og_syntax.specs.Clauses.{column_of, all_of, any_of, Aliased, item_of, table_of, semi_of, Where, core_of, rest_of, query_of}
use Rattle.og_syntax.specs.Lexemes.{is, sees}
use Rattle.og_syntax.specs.Meanings.{set_op_of, func_of_two, func_of_one, comparison_of, predicate_of}
use Rattle.og_syntax.specs.Reading.{Reads, ◌>>=◌, ◌>>◌, pure, refuse, given, choose, choose_if, tok, one, has, worded, more, joined, joined_if, optional, past, single, pair}
use Rattle.og_syntax.specs.Spans.{spelling, text_token, name_of, text_of, day_value_from, point_value_from, period_value_from, of_form}
use Rattle.og_syntax.specs.TextValues.{day_of, point_of, period_of}

-- ---- names, texts and literals

-- a word that is not reserved, in lower case
unfoldable pub name : List ℕ → Reads (List ℕ)
name script = do t ← one k.Name; given (name_of (spelling script t))

-- what stands between the quotes of a text
unfoldable pub quoted : List ℕ → Reads (List ℕ)
quoted script = do t ← one k.Quoted; given (content_at script (text_token t))

-- a text in UTF-8
unfoldable pub text : List ℕ → Reads (List ℕ)
text script = do z ← quoted script; given (text_of z)

-- a day text after DATE
unfoldable pub day_lit : List ℕ → Bool → Reads Value
day_lit script strict = do tok k.Date; z ← quoted script; given (of_form strict (day_value_from (day_of z)))

-- a point text after ONGOING
unfoldable pub point_lit : List ℕ → Bool → Reads Value
point_lit script strict = do tok k.Ongoing; z ← quoted script; given (of_form strict (point_value_from (point_of z)))

-- a period text after PERIOD
unfoldable pub period_lit : List ℕ → Bool → Reads Value
period_lit script strict = do tok k.Period; z ← quoted script; given (of_form strict (period_value_from (period_of z)))

-- a literal, by its first lexeme
unfoldable pub lit : List ℕ → Bool → Reads Value
lit script strict =
    choose (is k.Number) (do t ← one k.Number; pure (v.Int t.number))
    (choose (is k.Quoted) (do x ← text script; pure (v.Text x))
    (choose (is k.Date) (day_lit script strict)
    (choose (is k.Ongoing) (point_lit script strict)
    (period_lit script strict))))

-- ---- expressions

-- a column, with a dot or without
unfoldable pub column : List ℕ → Reads ExprText
column script = do x ← name script; y ← optional (is k.Dot) (do tok k.Dot; name script); pure (column_of x y)

-- PERIOD begins a call, and not a literal
unfoldable pub calls_period : List Lexeme → Bool
calls_period ts = sees k.Period ts && sees k.LeftParen (drop 1 ts)

-- an expression, nested no deeper than the number
unfoldable pub expr_in : List ℕ → Bool → ℕ → Reads ExprText
expr_in script strict zero = refuse
expr_in script strict (suc d) =
    choose (is k.Name) (column script)
    (choose (has func_of_two) (do f ← worded func_of_two; xs ← pair (expr_in script strict d); pure (e.Call f (xs.0 ∷ xs.1 ∷ [])))
    (choose (has func_of_one) (do f ← worded func_of_one; x ← single (expr_in script strict d); pure (e.Call f (x ∷ [])))
    (choose_if calls_period (do tok k.Period; xs ← pair (expr_in script strict d); pure (e.Call func.Period (xs.0 ∷ xs.1 ∷ [])))
    (do x ← lit script strict; pure (e.Lit x)))))

-- each level takes a lexeme, so their count is levels enough
unfoldable pub expr : List ℕ → Bool → Reads ExprText
expr script strict = λ ts. expr_in script strict (length ts) ts

-- ---- conditions

-- negations with AND between them
unfoldable pub conj_of : Reads CondText → Reads CondText
conj_of neg = do xs ← joined neg (is k.And) (do tok k.And; neg); pure (all_of xs)

-- conjunctions with OR between them
unfoldable pub cond_of : Reads CondText → Reads CondText
cond_of neg = do xs ← joined (conj_of neg) (is k.Or) (do tok k.Or; conj_of neg); pure (any_of xs)

-- a comparison and the expression after it, behind the first expression
unfoldable pub compare : List ℕ → Bool → ExprText → Reads CondText
compare script strict x = do op ← worded comparison_of; y ← expr script strict; pure (c.Compare op x y)

-- a predicate and the expression after it, behind the first expression
unfoldable pub relate : List ℕ → Bool → ExprText → Reads CondText
relate script strict x = do pred ← worded predicate_of; y ← expr script strict; pure (c.Relate pred x y)

-- two expressions with a comparison or a predicate between them
unfoldable pub relation : List ℕ → Bool → Reads CondText
relation script strict = do x ← expr script strict; choose (has comparison_of) (compare script strict x) (relate script strict x)

-- an atom, where negations inside it are read so
unfoldable pub atom_of : List ℕ → Bool → Reads CondText → Reads CondText
atom_of script strict neg =
    choose (is k.LeftParen) (single (cond_of neg))
    (choose (is k.Empty) (do tok k.Empty; x ← single (expr script strict); pure (c.Empty x))
    (choose (is k.Contains) (do tok k.Contains; xs ← pair (expr script strict); pure (c.Contains xs.0 xs.1))
    (relation script strict)))

-- a negation, nested no deeper than the number
unfoldable pub neg_in : List ℕ → Bool → ℕ → Reads CondText
neg_in script strict zero = refuse
neg_in script strict (suc d) =
    choose (is k.Not) (do tok k.Not; x ← neg_in script strict d; pure (c.Not x))
    (atom_of script strict (neg_in script strict d))

-- each level takes a lexeme, so their count is levels enough
unfoldable pub cond : List ℕ → Bool → Reads CondText
cond script strict = λ ts. cond_of (neg_in script strict (length ts)) ts

-- ---- the parts of a query

-- AS comes and a name after it
unfoldable pub as_name : List Lexeme → Bool
as_name ts = sees k.As ts && sees k.Name (drop 1 ts)

-- an alias, after AS or not, or none
unfoldable pub alias : List ℕ → Reads (Option (List ℕ))
alias script =
    choose (is k.Name) (do x ← name script; pure (Some x))
    (choose_if as_name (do tok k.As; x ← name script; pure (Some x)) (pure None))

-- a name and its alias
unfoldable pub fitem : List ℕ → Reads Aliased
fitem script = do x ← name script; y ← alias script; pure (x, y)

-- an expression, with the name that AS gives it
unfoldable pub item : List ℕ → Bool → Reads ItemText
item script strict = do x ← expr script strict; y ← optional (is k.As) (past k.As (name script)); pure (item_of x y)

-- items with a comma between them
unfoldable pub item_list : List ℕ → Bool → Reads (List ItemText)
item_list script strict = joined (item script strict) (is k.Comma) (past k.Comma (item script strict))

-- all columns, or a list of items
unfoldable pub items : List ℕ → Bool → Reads ItemsText
items script strict = choose (is k.Star) (do tok k.Star; pure i.Star) (do xs ← item_list script strict; pure (i.List xs))

-- a comma or JOIN goes on with the tables
abbrev pub goes_on : Sort → Bool
goes_on a = is k.Comma a || is k.Join a

-- a table without a condition
unfoldable pub first_table : List ℕ → Reads FromText
first_table script = do x ← fitem script; pure (table_of x None)

-- a table after JOIN, with its condition
unfoldable pub joined_table : List ℕ → Bool → Reads FromText
joined_table script strict = do tok k.Join; x ← fitem script; tok k.On; y ← cond script strict; pure (table_of x (Some y))

-- a table after a comma or after JOIN
unfoldable pub further_table : List ℕ → Bool → Reads FromText
further_table script strict = choose (is k.Comma) (past k.Comma (first_table script)) (joined_table script strict)

-- what stands after FROM
unfoldable pub tables : List ℕ → Bool → Reads (List FromText)
tables script strict = joined (first_table script) goes_on (further_table script strict)

-- ---- WHERE, with EXISTS at its end

-- a sub-select
unfoldable pub sub : List ℕ → Bool → Reads (Aliased × Option CondText)
sub script strict = do tok k.Select; tok k.Star; tok k.From; x ← fitem script; y ← optional (is k.Where) (past k.Where (cond script strict)); pure (x, y)

-- EXISTS or NOT EXISTS, and a sub-select in parentheses
unfoldable pub semi : List ℕ → Bool → Reads SemiText
semi script strict =
    choose (is k.Exists) (do tok k.Exists; x ← single (sub script strict); pure (semi_of true x))
    (do tok k.Not; tok k.Exists; x ← single (sub script strict); pure (semi_of false x))

-- conditions of EXISTS with AND between them
unfoldable pub semis : List ℕ → Bool → Reads (List SemiText)
semis script strict = joined (semi script strict) (is k.And) (past k.And (semi script strict))

-- EXISTS or NOT EXISTS comes
unfoldable pub begins_semi : List Lexeme → Bool
begins_semi ts = sees k.Exists ts || (sees k.Not ts && sees k.Exists (drop 1 ts))

-- AND comes, and neither EXISTS nor NOT EXISTS after it
unfoldable pub and_neg : List Lexeme → Bool
and_neg ts = sees k.And ts && not (begins_semi (drop 1 ts))

-- behind conditions with AND between them: conditions of EXISTS after AND, or further conjunctions after OR
unfoldable pub where_end : List ℕ → Bool → Reads CondText → List CondText → Reads Where
where_end script strict neg xs =
    choose (is k.And) (do ss ← past k.And (semis script strict); pure (Some (all_of xs), ss))
    (do ys ← more (is k.Or) (past k.Or (conj_of neg)); pure (Some (any_of (all_of xs ∷ ys)), []))

-- what stands after WHERE
unfoldable pub wcond_of : List ℕ → Bool → Reads CondText → Reads Where
wcond_of script strict neg =
    choose_if begins_semi (do ss ← semis script strict; pure (None, ss))
    (do xs ← joined_if neg and_neg (past k.And neg); where_end script strict neg xs)

-- of a live query, a condition without EXISTS
unfoldable pub wcond : List ℕ → Bool → Bool → Reads Where
wcond script strict true = do x ← cond script strict; pure (Some x, [])
wcond script strict false = λ ts. wcond_of script strict (neg_in script strict (length ts)) ts

-- ---- queries

-- a SELECT; of a live query without EXISTS
unfoldable pub core : List ℕ → Bool → Bool → Reads CoreText
core script strict live = do
  tok k.Select
  xs ← items script strict
  tok k.From
  ts ← tables script strict
  w ← optional (is k.Where) (past k.Where (wcond script strict live))
  pure (core_of xs ts w)

-- an operator and the core after it
unfoldable pub further_core : List ℕ → Bool → Bool → Reads RestText
further_core script strict live = do op ← worded (set_op_of live); x ← core script strict live; pure (rest_of op x)

-- a query; of a live query with UNION alone between its cores
unfoldable pub query : List ℕ → Bool → Bool → Reads QueryText
query script strict live = do x ← core script strict live; xs ← more (has (set_op_of live)) (further_core script strict live); pure (query_of x xs)
