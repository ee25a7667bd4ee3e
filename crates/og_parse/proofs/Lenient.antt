-- What is by the strict grammar is by the lenient one.
use Rattle.std.proofs.Common.{inl, inr, ℕ, zero, suc, pos, Bool, true, false, List, [], ◌∷◌, length, Some, None, refl}
use Rattle.og_value.specs.declared.value.Value.{Value}
use Rattle.og_value.specs.declared.value.Value.TheVariants as v
use Rattle.og_value.specs.declared.term.Func.TheVariants as func
use Rattle.og_syntax.specs.declared.lexeme.Sort.TheVariants as k
use Rattle.og_syntax.specs.declared.lexeme.Lexeme.{Lexeme}
use Rattle.og_syntax.specs.declared.tree.ExprText.{ExprText}
use Rattle.og_syntax.specs.declared.tree.ExprText.TheVariants as e
use Rattle.og_syntax.specs.declared.tree.CondText.{CondText}
use Rattle.og_syntax.specs.declared.tree.CondText.TheVariants as c
use Rattle.og_syntax.specs.declared.tree.ItemsText.TheVariants as i
use Rattle.og_syntax.specs.declared.tree.Stmt.TheVariants as s
use Rattle.og_syntax.specs.Meanings.{set_op_of, func_of_two, func_of_one, comparison_of, predicate_of}
use Rattle.og_syntax.specs.Rules.{Rule, Given, ◌or◌, Tok, One, Worded, Many, Joined, Optional, Past, Single, Pair}
use Rattle.og_syntax.specs.Rules as rules_
use Rattle.og_syntax.specs.Spans.{IsOfForm, IsDayValue, IsPointValue, IsPeriodValue}
use Rattle.og_syntax.specs.Clauses.{all_of, any_of, item_of, table_of, semi_of, before_semis, core_of, rest_of, query_of}
use Rattle.og_syntax.specs.Grammar.{IsName, IsQuoted, IsText, IsDayLit, IsPointLit, IsPeriodLit, IsLit, IsColumn, IsExprIn, IsExpr, IsConjOf, IsCondOf, IsCompare, IsRelate, IsRelation, IsAtomOf, IsNegIn, IsCond, IsFitem, IsItem, IsItemList, IsItems, IsFirstTable, IsJoinedTable, IsFurtherTable, IsTables, IsSub, IsSemi, IsSemis, IsWcondOf, IsWcond, IsCore, IsFurtherCore, IsQuery}
use Rattle.og_parse.specs.Statements as st
use Rattle.og_parse.specs.Statements.{set_of, IsDayOf, IsTuple, IsSet, IsWhereCond, IsAsOfText, IsAsOf, IsCreate, IsInsert, IsDelete, IsUpdate, IsDrop, IsChange, IsFileStatement, IsKeep, IsNameAsOf, IsQueryAsOf, IsPrint, IsExplain, IsValid, IsLive, IsAnswer, IsBody, IsStatement}

-- where the one rule relates something, the other relates something to the same lexemes
abbrev pub Lenient : {A : Type 0} → Rule A → Rule A → Type 0
Lenient {A} P Q = (ts : List Lexeme) (x : A) (rest : List Lexeme) → P ts x rest → (y : A) × Q ts y rest

-- ---- steps

-- a rule without texts
same : {A : Type 0} (P : Rule A) → Lenient P P
same P ts x rest h = (x, h)

-- a value
made : {A : Type 0} (a b : A) → Lenient (rules_.pure a) (rules_.pure b)
made a b ts x rest h = (b, (refl, h.1))

-- the one, and then the other
then : {A B : Type 0} {P P' : Rule A} {Q Q' : A → Rule B} → Lenient P P' → ((x x' : A) → Lenient (Q x) (Q' x')) → Lenient (rules_.Bind P Q) (rules_.Bind P' Q')
then L M ts y rest h =
    let a = L ts h.0 h.1 h.2 in
    let b = M h.0 a.0 h.1 y rest h.3 in
    (b.0, (a.0, h.1, a.1, b.1))

-- the value by a function
mapped : {A B : Type 0} {P P' : Rule A} → Lenient P P' → (g g' : A → B) → Lenient (rules_.Bind P (λ x. rules_.pure (g x))) (rules_.Bind P' (λ x. rules_.pure (g' x)))
mapped L g g' ts y rest h =
    let a = L ts h.0 h.1 h.2 in
    (g' a.0, (a.0, h.1, a.1, (refl, h.3.1)))

-- the one, or the other
either : {A : Type 0} {P P' Q Q' : Rule A} → Lenient P P' → Lenient Q Q' → Lenient (P or Q) (P' or Q')
either L M ts x rest (inl h) = let a = L ts x rest h in (a.0, inl a.1)
either L M ts x rest (inr h) = let a = M ts x rest h in (a.0, inr a.1)

-- what comes after a lexeme
after : {B : Type 0} (sort : k.the_data) {Q Q' : Rule B} → Lenient Q Q' → Lenient (rules_.Bind (Tok sort) (λ _. Q)) (rules_.Bind (Tok sort) (λ _. Q'))
after sort L = then (same (Tok sort)) (λ _ _. L)

-- any number of parts
many : {A : Type 0} {P P' : Rule A} → Lenient P P' → Lenient (Many P) (Many P')
many L ts [] rest h = ([], h)
many L ts (x ∷ xs) rest h =
    let a = L ts x h.0 h.1 in
    let b = many L h.0 xs rest h.2 in
    (a.0 ∷ b.0, (h.0, a.1, b.1))

-- a part, and then any number of further ones
joined : {A : Type 0} {P P' Q Q' : Rule A} → Lenient P P' → Lenient Q Q' → Lenient (Joined P Q) (Joined P' Q')
joined L M = then L (λ x x'. mapped (many M) (λ xs. x ∷ xs) (λ xs. x' ∷ xs))

-- a part, or nothing
optional : {A : Type 0} {P P' : Rule A} → Lenient P P' → Lenient (Optional P) (Optional P')
optional L = either (mapped L Some Some) (same (rules_.pure None))

-- in parentheses
single : {A : Type 0} {P P' : Rule A} → Lenient P P' → Lenient (Single P) (Single P')
single L = after k.LeftParen (then L (λ x x'. after k.RightParen (made x x')))

-- two in parentheses
pair : {A : Type 0} {P P' : Rule A} → Lenient P P' → Lenient (Pair P) (Pair P')
pair L = after k.LeftParen (then L (λ x x'. after k.Comma (then L (λ y y'. after k.RightParen (made (x, y) (x', y'))))))

-- any text will do
formed : (R : List ℕ → Value → Type 0) (z z' : List ℕ) → Lenient (Given (IsOfForm true R z)) (Given (IsOfForm false R z'))
formed R z z' ts x rest h = (v.Int (pos 0), (refl, h.1))

-- any text will do after AS OF
dated : (z z' : List ℕ) → Lenient (Given (IsDayOf true z)) (Given (IsDayOf false z'))
dated z z' ts x rest h = (pos 0, (refl, h.1))

-- ---- literals and expressions

day_lit : (script : List ℕ) → Lenient (IsDayLit script true) (IsDayLit script false)
unfolding IsDayLit
day_lit script = after k.Date (then (same (IsQuoted script)) (λ z z'. formed IsDayValue z z'))

point_lit : (script : List ℕ) → Lenient (IsPointLit script true) (IsPointLit script false)
unfolding IsPointLit
point_lit script = after k.Ongoing (then (same (IsQuoted script)) (λ z z'. formed IsPointValue z z'))

period_lit : (script : List ℕ) → Lenient (IsPeriodLit script true) (IsPeriodLit script false)
unfolding IsPeriodLit
period_lit script = after k.Period (then (same (IsQuoted script)) (λ z z'. formed IsPeriodValue z z'))

lit : (script : List ℕ) → Lenient (IsLit script true) (IsLit script false)
unfolding IsLit
lit script =
    either (mapped (same (One k.Number)) (λ t. v.Int t.number) (λ t. v.Int t.number))
    (either (mapped (same (IsText script)) v.Text v.Text) (either (day_lit script) (either (point_lit script) (period_lit script))))

expr_in : (script : List ℕ) (d : ℕ) → Lenient (IsExprIn script true d) (IsExprIn script false d)
unfolding IsExprIn
expr_in script zero = λ ts x rest h. absurd h
expr_in script (suc d) =
    either (same (IsColumn script))
    (either (then (same (Worded func_of_two)) (λ f f'. mapped (pair (expr_in script d)) (λ xs. e.Call f (xs.0 ∷ xs.1 ∷ [])) (λ xs. e.Call f' (xs.0 ∷ xs.1 ∷ []))))
    (either (then (same (Worded func_of_one)) (λ f f'. mapped (single (expr_in script d)) (λ x. e.Call f (x ∷ [])) (λ x. e.Call f' (x ∷ []))))
    (either (after k.Period (mapped (pair (expr_in script d)) (λ xs. e.Call func.Period (xs.0 ∷ xs.1 ∷ [])) (λ xs. e.Call func.Period (xs.0 ∷ xs.1 ∷ []))))
    (mapped (lit script) e.Lit e.Lit))))

expr : (script : List ℕ) → Lenient (IsExpr script true) (IsExpr script false)
unfolding IsExpr
expr script ts = expr_in script (length ts) ts

-- ---- conditions

conj_of : {P P' : Rule CondText} → Lenient P P' → Lenient (IsConjOf P) (IsConjOf P')
unfolding IsConjOf
conj_of L = mapped (joined L (after k.And L)) all_of all_of

cond_of : {P P' : Rule CondText} → Lenient P P' → Lenient (IsCondOf P) (IsCondOf P')
unfolding IsCondOf
cond_of L = mapped (joined (conj_of L) (after k.Or (conj_of L))) any_of any_of

compare : (script : List ℕ) (x x' : ExprText) → Lenient (IsCompare script true x) (IsCompare script false x')
unfolding IsCompare
compare script x x' = then (same (Worded comparison_of)) (λ op op'. mapped (expr script) (λ y. c.Compare op x y) (λ y. c.Compare op' x' y))

relate : (script : List ℕ) (x x' : ExprText) → Lenient (IsRelate script true x) (IsRelate script false x')
unfolding IsRelate
relate script x x' = then (same (Worded predicate_of)) (λ p p'. mapped (expr script) (λ y. c.Relate p x y) (λ y. c.Relate p' x' y))

relation : (script : List ℕ) → Lenient (IsRelation script true) (IsRelation script false)
unfolding IsRelation
relation script = then (expr script) (λ x x'. either (compare script x x') (relate script x x'))

atom_of : (script : List ℕ) {P P' : Rule CondText} → Lenient P P' → Lenient (IsAtomOf script true P) (IsAtomOf script false P')
unfolding IsAtomOf
atom_of script L =
    either (single (cond_of L))
    (either (after k.Empty (mapped (single (expr script)) c.Empty c.Empty))
    (either (after k.Contains (mapped (pair (expr script)) (λ xs. c.Contains xs.0 xs.1) (λ xs. c.Contains xs.0 xs.1))) (relation script)))

neg_in : (script : List ℕ) (d : ℕ) → Lenient (IsNegIn script true d) (IsNegIn script false d)
unfolding IsNegIn
neg_in script zero = λ ts x rest h. absurd h
neg_in script (suc d) = either (after k.Not (mapped (neg_in script d) c.Not c.Not)) (atom_of script (neg_in script d))

cond : (script : List ℕ) → Lenient (IsCond script true) (IsCond script false)
unfolding IsCond
cond script ts = cond_of (neg_in script (length ts)) ts

-- ---- queries

item : (script : List ℕ) → Lenient (IsItem script true) (IsItem script false)
unfolding IsItem
item script = then (expr script) (λ x x'. mapped (same (Optional (Past k.As (IsName script)))) (item_of x) (item_of x'))

items : (script : List ℕ) → Lenient (IsItems script true) (IsItems script false)
unfolding IsItems IsItemList
items script =
    either (after k.Star (made i.Star i.Star)) (mapped (joined (item script) (after k.Comma (item script))) i.List i.List)

joined_table : (script : List ℕ) → Lenient (IsJoinedTable script true) (IsJoinedTable script false)
unfolding IsJoinedTable
joined_table script =
    after k.Join (then (same (IsFitem script)) (λ x x'. after k.On (mapped (cond script) (λ y. table_of x (Some y)) (λ y. table_of x' (Some y)))))

tables : (script : List ℕ) → Lenient (IsTables script true) (IsTables script false)
unfolding IsTables IsFurtherTable
tables script = joined (same (IsFirstTable script)) (either (same (Past k.Comma (IsFirstTable script))) (joined_table script))

sub : (script : List ℕ) → Lenient (IsSub script true) (IsSub script false)
unfolding IsSub
sub script =
    after k.Select (after k.Star (after k.From
    (then (same (IsFitem script)) (λ x x'. mapped (optional (after k.Where (cond script))) (λ y. (x, y)) (λ y. (x', y))))))

semi : (script : List ℕ) → Lenient (IsSemi script true) (IsSemi script false)
unfolding IsSemi
semi script =
    either (after k.Exists (mapped (single (sub script)) (semi_of true) (semi_of true)))
    (after k.Not (after k.Exists (mapped (single (sub script)) (semi_of false) (semi_of false))))

wcond_of : (script : List ℕ) {P P' : Rule CondText} → Lenient P P' → Lenient (IsWcondOf script true P) (IsWcondOf script false P')
unfolding IsWcondOf IsSemis
wcond_of script L =
    either (mapped (cond_of L) (λ x. (Some x, [])) (λ x. (Some x, [])))
    (then (many (then L (λ x x'. after k.And (made x x'))))
    (λ xs xs'. mapped (joined (semi script) (after k.And (semi script))) (λ ss. (before_semis xs, ss)) (λ ss. (before_semis xs', ss))))

wcond : (script : List ℕ) (live : Bool) → Lenient (IsWcond script true live) (IsWcond script false live)
unfolding IsWcond
wcond script true = mapped (cond script) (λ x. (Some x, [])) (λ x. (Some x, []))
wcond script false = λ ts. wcond_of script (neg_in script (length ts)) ts

core : (script : List ℕ) (live : Bool) → Lenient (IsCore script true live) (IsCore script false live)
unfolding IsCore
core script live =
    after k.Select (then (items script) (λ xs xs'. after k.From (then (tables script) (λ ts ts'.
    mapped (optional (after k.Where (wcond script live))) (core_of xs ts) (core_of xs' ts')))))

query : (script : List ℕ) (live : Bool) → Lenient (IsQuery script true live) (IsQuery script false live)
unfolding IsQuery IsFurtherCore
query script live =
    then (core script live) (λ x x'. mapped
    (many (then (same (Worded (set_op_of live))) (λ op op'. mapped (core script live) (rest_of op) (rest_of op'))))
    (query_of x) (query_of x'))

-- ---- statements

as_of : (script : List ℕ) → Lenient (IsAsOf script true) (IsAsOf script false)
unfolding IsAsOf
as_of script = then (same (IsAsOfText script)) (λ z z'. dated z z')

tuple : (script : List ℕ) → Lenient (IsTuple script true) (IsTuple script false)
unfolding IsTuple
tuple script = single (joined (lit script) (after k.Comma (lit script)))

set : (script : List ℕ) → Lenient (IsSet script true) (IsSet script false)
unfolding IsSet
set script = then (same (IsName script)) (λ x x'. after k.Equal (mapped (expr script) (set_of x) (set_of x')))

where_cond : (script : List ℕ) → Lenient (IsWhereCond script true) (IsWhereCond script false)
unfolding IsWhereCond
where_cond script = optional (after k.Where (cond script))

change : (script : List ℕ) → Lenient (IsChange script true) (IsChange script false)
unfolding IsChange IsInsert IsDelete IsUpdate
change script =
    either (same (IsCreate script))
    (either (after k.Insert (after k.Into (then (same (IsName script)) (λ x x'. after k.Values
    (mapped (joined (tuple script) (after k.Comma (tuple script))) (s.Insert x) (s.Insert x'))))))
    (either (after k.Delete (after k.From (then (same (IsName script)) (λ x x'. mapped (where_cond script) (s.Delete x) (s.Delete x')))))
    (either (after k.Update (then (same (IsName script)) (λ x x'. after k.Set
    (then (joined (set script) (after k.Comma (set script))) (λ xs xs'. mapped (where_cond script) (s.Update x xs) (s.Update x' xs'))))))
    (same (IsDrop script)))))

print : (script : List ℕ) → Lenient (IsPrint script true) (IsPrint script false)
unfolding IsPrint IsNameAsOf IsQueryAsOf
print script =
    after k.Print (either (then (same (IsName script)) (λ x x'. mapped (as_of script) (s.PrintName x) (s.PrintName x')))
    (then (query script false) (λ q q'. mapped (as_of script) (s.PrintQuery q) (s.PrintQuery q'))))

answer : (script : List ℕ) → Lenient (IsAnswer script true) (IsAnswer script false)
unfolding IsAnswer IsKeep IsExplain IsValid IsLive
answer script =
    either (same st.IsTables)
    (either (after k.Keep (then (same (IsName script)) (λ x x'. after k.As (mapped (query script false) (s.Keep x) (s.Keep x')))))
    (either (print script)
    (either (after k.Explain (mapped (query script false) s.Explain s.Explain))
    (either (after k.Valid (then (same (IsName script)) (λ x x'. mapped (as_of script) (s.Valid x) (s.Valid x'))))
    (after k.Live (then (same (IsName script)) (λ x x'. after k.As (mapped (query script true) (s.Live x) (s.Live x')))))))))

-- each statement of the strict grammar is one of the lenient grammar
pub lenient : (script : List ℕ) → Lenient (IsStatement script true) (IsStatement script false)
unfolding IsStatement IsBody
lenient script =
    then (either (change script) (either (same (IsFileStatement script)) (answer script))) (λ x x'. after k.Semicolon (made x x'))
