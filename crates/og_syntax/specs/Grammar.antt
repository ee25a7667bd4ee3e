-- The grammar, one rule for each of its lines. The script's bytes stand behind the lexemes. Where it is not strict, quoted texts need not be of their form.
use Rattle.std.specs.Prelude.{ℕ, zero, suc, Bool, List, [], ◌∷◌, Option, Some, None, length, true, false}
use Rattle.og_value.specs.declared.value.Value.{Value}
use Rattle.og_value.specs.declared.value.Value.TheVariants as v
use Rattle.og_value.specs.declared.term.Func.TheVariants as func
use Rattle.og_syntax.specs.declared.lexeme.Sort.TheVariants as k
use Rattle.og_syntax.specs.declared.tree.ExprText.{ExprText}
use Rattle.og_syntax.specs.declared.tree.ExprText.TheVariants as e
use Rattle.og_syntax.specs.declared.tree.CondText.{CondText}
use Rattle.og_syntax.specs.declared.tree.CondText.TheVariants as c
use Rattle.og_syntax.specs.declared.tree.ItemText.{ItemText}
use Rattle.og_syntax.specs.declared.tree.ItemsText.{ItemsText}
use Rattle.og_syntax.specs.declared.tree.ItemsText.TheVariants as i
use Rattle.og_syntax.specs.declared.tree.FromText.{FromText}
use Rattle.og_syntax.specs.declared.tree.SemiText.{SemiText}
use Rattle.og_syntax.specs.declared.tree.CoreText.{CoreText}
use Rattle.og_syntax.specs.declared.tree.RestText.{RestText}
use Rattle.og_syntax.specs.declared.tree.QueryText.{QueryText}
use Rattle.og_syntax.specs.Meanings.{set_op_of, func_of_two, func_of_one, comparison_of, predicate_of}
use Rattle.og_syntax.specs.Rules.{Rule, ◌>>=◌, ◌>>◌, ◌or◌, pure, Given, Never, Tok, One, Worded, Many, Joined, Optional, Past, Single, Pair}
use Rattle.og_syntax.specs.Spans.{spelling, IsContent, IsNameOf, IsTextOf, IsOfForm, IsDayValue, IsPointValue, IsPeriodValue}
use Rattle.og_syntax.specs.Clauses.{column_of, all_of, any_of, Aliased, item_of, table_of, semi_of, Where, before_semis, core_of, rest_of, query_of}

-- ---- names, texts and literals

-- a word that is not reserved
unfoldable pub IsName : List ℕ → Rule (List ℕ)
IsName script = do t ← One k.Name; Given (IsNameOf (spelling script t))

-- what stands between quotes
unfoldable pub IsQuoted : List ℕ → Rule (List ℕ)
IsQuoted script = do t ← One k.Quoted; Given (IsContent script t)

-- text, in UTF-8
unfoldable pub IsText : List ℕ → Rule (List ℕ)
IsText script = do z ← IsQuoted script; Given (IsTextOf z)

-- DATE text, of a day text
unfoldable pub IsDayLit : List ℕ → Bool → Rule Value
IsDayLit script strict = do Tok k.Date; z ← IsQuoted script; Given (IsOfForm strict IsDayValue z)

-- ONGOING text, of a point text
unfoldable pub IsPointLit : List ℕ → Bool → Rule Value
IsPointLit script strict = do Tok k.Ongoing; z ← IsQuoted script; Given (IsOfForm strict IsPointValue z)

-- PERIOD text, of a period text
unfoldable pub IsPeriodLit : List ℕ → Bool → Rule Value
IsPeriodLit script strict = do Tok k.Period; z ← IsQuoted script; Given (IsOfForm strict IsPeriodValue z)

-- lit
unfoldable pub IsLit : List ℕ → Bool → Rule Value
IsLit script strict =
    (do t ← One k.Number; pure (v.Int t.number))
    or (do x ← IsText script; pure (v.Text x))
    or IsDayLit script strict
    or IsPointLit script strict
    or IsPeriodLit script strict

-- ---- expressions

-- name | name . name
unfoldable pub IsColumn : List ℕ → Rule ExprText
IsColumn script = do x ← IsName script; y ← Optional (do Tok k.Dot; IsName script); pure (column_of x y)

-- an expression, nested no deeper than the number
unfoldable pub IsExprIn : List ℕ → Bool → ℕ → Rule ExprText
IsExprIn script strict zero = Never
IsExprIn script strict (suc d) =
    IsColumn script
    or (do f ← Worded func_of_two; xs ← Pair (IsExprIn script strict d); pure (e.Call f (xs.0 ∷ xs.1 ∷ [])))
    or (do f ← Worded func_of_one; x ← Single (IsExprIn script strict d); pure (e.Call f (x ∷ [])))
    or (do Tok k.Period; xs ← Pair (IsExprIn script strict d); pure (e.Call func.Period (xs.0 ∷ xs.1 ∷ [])))
    or (do x ← IsLit script strict; pure (e.Lit x))

-- expr; each level takes a lexeme, so their count is no bound
unfoldable pub IsExpr : List ℕ → Bool → Rule ExprText
IsExpr script strict = λ ts. IsExprIn script strict (length ts) ts

-- ---- conditions

-- conj: neg (AND neg)*
unfoldable pub IsConjOf : Rule CondText → Rule CondText
IsConjOf Neg = do xs ← Joined Neg (do Tok k.And; Neg); pure (all_of xs)

-- cond: conj (OR conj)*
unfoldable pub IsCondOf : Rule CondText → Rule CondText
IsCondOf Neg = do xs ← Joined (IsConjOf Neg) (do Tok k.Or; IsConjOf Neg); pure (any_of xs)

-- cmp expr, behind an expression
unfoldable pub IsCompare : List ℕ → Bool → ExprText → Rule CondText
IsCompare script strict x = do op ← Worded comparison_of; y ← IsExpr script strict; pure (c.Compare op x y)

-- pred expr, behind an expression
unfoldable pub IsRelate : List ℕ → Bool → ExprText → Rule CondText
IsRelate script strict x = do pred ← Worded predicate_of; y ← IsExpr script strict; pure (c.Relate pred x y)

-- expr cmp expr | expr pred expr
unfoldable pub IsRelation : List ℕ → Bool → Rule CondText
IsRelation script strict = do x ← IsExpr script strict; IsCompare script strict x or IsRelate script strict x

-- atom, where negations inside it are of this rule
unfoldable pub IsAtomOf : List ℕ → Bool → Rule CondText → Rule CondText
IsAtomOf script strict Neg =
    Single (IsCondOf Neg)
    or (do Tok k.Empty; x ← Single (IsExpr script strict); pure (c.Empty x))
    or (do Tok k.Contains; xs ← Pair (IsExpr script strict); pure (c.Contains xs.0 xs.1))
    or IsRelation script strict

-- neg: NOT neg | atom, nested no deeper than the number
unfoldable pub IsNegIn : List ℕ → Bool → ℕ → Rule CondText
IsNegIn script strict zero = Never
IsNegIn script strict (suc d) =
    (do Tok k.Not; x ← IsNegIn script strict d; pure (c.Not x))
    or IsAtomOf script strict (IsNegIn script strict d)

-- cond; each level takes a lexeme, so their count is no bound
unfoldable pub IsCond : List ℕ → Bool → Rule CondText
IsCond script strict = λ ts. IsCondOf (IsNegIn script strict (length ts)) ts

-- ---- the parts of a query

-- name | AS name, or nothing
unfoldable pub IsAlias : List ℕ → Rule (Option (List ℕ))
IsAlias script = (do x ← IsName script; pure (Some x)) or (do Tok k.As; x ← IsName script; pure (Some x)) or pure None

-- fitem and subitem: name | name name | name AS name
unfoldable pub IsFitem : List ℕ → Rule Aliased
IsFitem script = do x ← IsName script; y ← IsAlias script; pure (x, y)

-- item: expr | expr AS name
unfoldable pub IsItem : List ℕ → Bool → Rule ItemText
IsItem script strict = do x ← IsExpr script strict; y ← Optional (Past k.As (IsName script)); pure (item_of x y)

-- item (, item)*
unfoldable pub IsItemList : List ℕ → Bool → Rule (List ItemText)
IsItemList script strict = Joined (IsItem script strict) (Past k.Comma (IsItem script strict))

-- items: * | item (, item)*
unfoldable pub IsItems : List ℕ → Bool → Rule ItemsText
IsItems script strict = (do Tok k.Star; pure i.Star) or (do xs ← IsItemList script strict; pure (i.List xs))

-- fitem, as a table without a condition
unfoldable pub IsFirstTable : List ℕ → Rule FromText
IsFirstTable script = do x ← IsFitem script; pure (table_of x None)

-- JOIN fitem ON cond
unfoldable pub IsJoinedTable : List ℕ → Bool → Rule FromText
IsJoinedTable script strict = do Tok k.Join; x ← IsFitem script; Tok k.On; y ← IsCond script strict; pure (table_of x (Some y))

-- more: , fitem | JOIN fitem ON cond
unfoldable pub IsFurtherTable : List ℕ → Bool → Rule FromText
IsFurtherTable script strict = Past k.Comma (IsFirstTable script) or IsJoinedTable script strict

-- from: fitem more*
unfoldable pub IsTables : List ℕ → Bool → Rule (List FromText)
IsTables script strict = Joined (IsFirstTable script) (IsFurtherTable script strict)

-- ---- WHERE, with EXISTS at its end

-- sub: SELECT * FROM subitem (WHERE cond)?
unfoldable pub IsSub : List ℕ → Bool → Rule (Aliased × Option CondText)
IsSub script strict = do Tok k.Select; Tok k.Star; Tok k.From; x ← IsFitem script; y ← Optional (Past k.Where (IsCond script strict)); pure (x, y)

-- semi: EXISTS ( sub ) | NOT EXISTS ( sub )
unfoldable pub IsSemi : List ℕ → Bool → Rule SemiText
IsSemi script strict =
    (do Tok k.Exists; x ← Single (IsSub script strict); pure (semi_of true x))
    or (do Tok k.Not; Tok k.Exists; x ← Single (IsSub script strict); pure (semi_of false x))

-- semi (AND semi)*
unfoldable pub IsSemis : List ℕ → Bool → Rule (List SemiText)
IsSemis script strict = Joined (IsSemi script strict) (Past k.And (IsSemi script strict))

-- wcond: cond | (neg AND)* semi (AND semi)*
unfoldable pub IsWcondOf : List ℕ → Bool → Rule CondText → Rule Where
IsWcondOf script strict Neg =
    (do x ← IsCondOf Neg; pure (Some x, []))
    or (do xs ← Many (do x ← Neg; Tok k.And; pure x); ss ← IsSemis script strict; pure (before_semis xs, ss))

-- of a live query, a condition without EXISTS
unfoldable pub IsWcond : List ℕ → Bool → Bool → Rule Where
IsWcond script strict true = do x ← IsCond script strict; pure (Some x, [])
IsWcond script strict false = λ ts. IsWcondOf script strict (IsNegIn script strict (length ts)) ts

-- ---- queries

-- core: SELECT items FROM from (WHERE wcond)?, and lcore where it is live
unfoldable pub IsCore : List ℕ → Bool → Bool → Rule CoreText
IsCore script strict live = do
  Tok k.Select
  xs ← IsItems script strict
  Tok k.From
  ts ← IsTables script strict
  w ← Optional (Past k.Where (IsWcond script strict live))
  pure (core_of xs ts w)

-- setop core
unfoldable pub IsFurtherCore : List ℕ → Bool → Bool → Rule RestText
IsFurtherCore script strict live = do op ← Worded (set_op_of live); x ← IsCore script strict live; pure (rest_of op x)

-- query: core (setop core)*, and lcore (UNION lcore)* where it is live
unfoldable pub IsQuery : List ℕ → Bool → Bool → Rule QueryText
IsQuery script strict live = do x ← IsCore script strict live; xs ← Many (IsFurtherCore script strict live); pure (query_of x xs)
