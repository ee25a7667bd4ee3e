-- The statements of a script: the query of each LIVE is one of a live result.
use Rattle.std.proofs.Common.{◌≡◌, inl, inr, ℕ, Bool, true, List, [], ◌∷◌, Option, Some, None, refl, sym, ap, ◌∙◌, subst}
use Rattle.std.specs.List.{All, AllByRecursion}
use Rattle.std.proofs.lemmas.List.Elements.{All-from_recursion}
use Rattle.std.proofs.lemmas.Option.{same_Some}
use Rattle.og_value.specs.declared.term.SetOp.{SetOp}
use Rattle.og_value.specs.declared.term.SetOp.TheVariants as op
use Rattle.og_lex.specs.declared.token.Token.{Token}
use Rattle.og_syntax.specs.declared.lexeme.Lexeme.{Lexeme}
use Rattle.og_syntax.specs.declared.lexeme.Sort.{Sort}
use Rattle.og_syntax.specs.declared.lexeme.Sort.TheVariants as k
use Rattle.og_syntax.specs.declared.tree.Stmt.{Stmt}
use Rattle.og_syntax.specs.Clauses.{Where, core_of}
use Rattle.og_syntax.specs.Grammar.{IsCore, IsFurtherCore, IsQuery, IsWcond}
use Rattle.og_syntax.specs.Meanings.{set_op_of}
use Rattle.og_syntax.specs.Rules.{Rule, Many, Optional, Past}
use Rattle.og_parse.specs.Script.{AreGood, IsScript, pieces}
use Rattle.og_parse.specs.Tokens.{lexemes_of}
use Rattle.og_parse.specs.Statements.{IsCreate, IsInsert, IsDelete, IsUpdate, IsDrop, IsChange, IsSave, IsOpen, IsImport, IsFileStatement, IsTables, IsKeep, IsNameAsOf, IsQueryAsOf, IsPrint, IsExplain, IsValid, IsLive, IsAnswer, IsBody, IsStatement}
use Rattle.og_script.specs.LiveTexts.{IsLiveRestText, IsLiveStmt, IsLiveText}

-- ---- what rules give

-- each value that the rule gives has the property
abbrev Gives : {A : Type 0} → (A → Type 0) → Rule A → Type 0
Gives {A} P R = (ts : List Lexeme) (x : A) (rest : List Lexeme) → R ts x rest → P x

-- each of many
many : {A : Type 0} (P : A → Type 0) (R : Rule A) → Gives P R → Gives (AllByRecursion P) (Many R)
many P R each ts [] rest h = tt
many P R each ts (x ∷ xs) rest (mid, first, more) = (each ts x mid first, many P R each mid xs rest more)

-- ---- a live query

-- between its SELECTs UNION stands alone
union_alone : (sort : Sort) (o : SetOp) → set_op_of true sort ≡ Some o → o ≡ op.Union
union_alone k.And o e = cc e
union_alone k.As o e = cc e
union_alone k.Before o e = cc e
union_alone k.Common o e = cc e
union_alone k.Contains o e = cc e
union_alone k.Create o e = cc e
union_alone k.Date o e = cc e
union_alone k.Delete o e = cc e
union_alone k.Drop o e = cc e
union_alone k.During o e = cc e
union_alone k.Empty o e = cc e
union_alone k.End o e = cc e
union_alone k.Equals o e = cc e
union_alone k.Except o e = cc e
union_alone k.Exists o e = cc e
union_alone k.Explain o e = cc e
union_alone k.Finishes o e = cc e
union_alone k.From o e = cc e
union_alone k.Greatest o e = cc e
union_alone k.Import o e = cc e
union_alone k.Insert o e = cc e
union_alone k.Int o e = cc e
union_alone k.Intersect o e = cc e
union_alone k.Into o e = cc e
union_alone k.Join o e = cc e
union_alone k.Keep o e = cc e
union_alone k.Least o e = cc e
union_alone k.Live o e = cc e
union_alone k.Meets o e = cc e
union_alone k.Not o e = cc e
union_alone k.Of o e = cc e
union_alone k.On o e = cc e
union_alone k.Ongoing o e = cc e
union_alone k.Open o e = cc e
union_alone k.Or o e = cc e
union_alone k.Overlaps o e = cc e
union_alone k.Period o e = cc e
union_alone k.Print o e = cc e
union_alone k.Save o e = cc e
union_alone k.Select o e = cc e
union_alone k.Set o e = cc e
union_alone k.Start o e = cc e
union_alone k.Starts o e = cc e
union_alone k.Table o e = cc e
union_alone k.Tables o e = cc e
union_alone k.Text o e = cc e
union_alone k.To o e = cc e
union_alone k.Union o e = sym (same_Some op.Union o e)
union_alone k.Update o e = cc e
union_alone k.Valid o e = cc e
union_alone k.Values o e = cc e
union_alone k.Where o e = cc e
union_alone k.Name o e = cc e
union_alone k.Number o e = cc e
union_alone k.Quoted o e = cc e
union_alone k.LeftParen o e = cc e
union_alone k.RightParen o e = cc e
union_alone k.Comma o e = cc e
union_alone k.Semicolon o e = cc e
union_alone k.Dot o e = cc e
union_alone k.Star o e = cc e
union_alone k.Equal o e = cc e
union_alone k.NotEqual o e = cc e
union_alone k.LessEqual o e = cc e
union_alone k.GreaterEqual o e = cc e
union_alone k.Less o e = cc e
union_alone k.Greater o e = cc e
union_alone k.Nothing o e = cc e

module _ (script : List ℕ) (strict : Bool) where
  -- its WHERE has no EXISTS
  no_semis : Gives (λ w. w.1 ≡ []) (IsWcond script strict true)
  unfolding IsWcond
  no_semis ts w rest (x, mid, cond, (is, end)) = ap (λ w. w.1) is

  -- nor has a SELECT
  of_core : Gives (λ core. core.semis ≡ []) (IsCore script strict true)
  unfolding IsCore
  of_core ts core rest (a, t1, sel, (xs, t2, items, (b, t3, from, (tables, t4, table, (w, t5, where_is, (is, end)))))) = ap (λ c. c.semis) is ∙ at w where_is
    where
      at : (w : Option Where) → Optional (Past k.Where (IsWcond script strict true)) t4 w t5 → (core_of xs tables w).semis ≡ []
      at None h = refl
      at (Some w) (inl (v, mid, (unit, mid2, tok, cond), (same, end))) = ap (λ w. w.1) (same_Some w v same) ∙ no_semis mid2 v mid cond
      at (Some w) (inr (h, end)) = cc h

  -- a further SELECT
  of_rest : Gives IsLiveRestText (IsFurtherCore script strict true)
  unfolding IsFurtherCore
  of_rest ts rest end (o, t1, (lexeme, is, word), (core, t2, of, (same, last))) =
      subst IsLiveRestText (sym same) (record { op = union_alone lexeme.sort o word; semis = of_core t1 core t2 of })

  -- the query
  of_query : Gives IsLiveText (IsQuery script strict true)
  unfolding IsQuery
  of_query ts query end (core, t1, first, (rests, t2, more, (is, last))) =
      subst IsLiveText (sym is) (record { first = of_core ts core t1 first; rest = All-from_recursion IsLiveRestText rests (many IsLiveRestText (IsFurtherCore script strict true) of_rest t1 rests t2 more) })

  -- ---- statements

  -- one that changes tables
  of_change : Gives IsLiveStmt (IsChange script strict)
  unfolding IsChange IsCreate IsInsert IsDelete IsUpdate IsDrop
  of_change ts x rest (inl (_, _, _, (_, _, _, (a, _, _, (b, _, _, (is, end)))))) = subst IsLiveStmt (sym is) tt
  of_change ts x rest (inr (inl (_, _, _, (_, _, _, (a, _, _, (_, _, _, (b, _, _, (is, end)))))))) = subst IsLiveStmt (sym is) tt
  of_change ts x rest (inr (inr (inl (_, _, _, (_, _, _, (a, _, _, (b, _, _, (is, end)))))))) = subst IsLiveStmt (sym is) tt
  of_change ts x rest (inr (inr (inr (inl (_, _, _, (a, _, _, (_, _, _, (b, _, _, (c, _, _, (is, end)))))))))) = subst IsLiveStmt (sym is) tt
  of_change ts x rest (inr (inr (inr (inr (_, _, _, (a, _, _, (is, end))))))) = subst IsLiveStmt (sym is) tt

  -- one of files
  of_file : Gives IsLiveStmt (IsFileStatement script)
  unfolding IsFileStatement IsSave IsOpen IsImport
  of_file ts x rest (inl (_, _, _, (a, _, _, (_, _, _, (b, _, _, (is, end)))))) = subst IsLiveStmt (sym is) tt
  of_file ts x rest (inr (inl (_, _, _, (a, _, _, (_, _, _, (b, _, _, (is, end))))))) = subst IsLiveStmt (sym is) tt
  of_file ts x rest (inr (inr (_, _, _, (_, _, _, (a, _, _, (_, _, _, (b, _, _, (is, end)))))))) = subst IsLiveStmt (sym is) tt

  -- one that tells or keeps something
  of_answer : Gives IsLiveStmt (IsAnswer script strict)
  unfolding IsAnswer IsTables IsKeep IsPrint IsNameAsOf IsQueryAsOf IsExplain IsValid IsLive
  of_answer ts x rest (inl (_, _, _, (is, end))) = subst IsLiveStmt (sym is) tt
  of_answer ts x rest (inr (inl (_, _, _, (a, _, _, (_, _, _, (b, _, _, (is, end))))))) = subst IsLiveStmt (sym is) tt
  of_answer ts x rest (inr (inr (inl (_, _, _, (inl (a, _, _, (b, _, _, (is, end)))))))) = subst IsLiveStmt (sym is) tt
  of_answer ts x rest (inr (inr (inl (_, _, _, (inr (a, _, _, (b, _, _, (is, end)))))))) = subst IsLiveStmt (sym is) tt
  of_answer ts x rest (inr (inr (inr (inl (_, _, _, (a, _, _, (is, end))))))) = subst IsLiveStmt (sym is) tt
  of_answer ts x rest (inr (inr (inr (inr (inl (_, _, _, (a, _, _, (b, _, _, (is, end))))))))) = subst IsLiveStmt (sym is) tt
  of_answer ts x rest (inr (inr (inr (inr (inr (_, _, _, (a, _, _, (_, mid, _, (query, mid2, of, (is, end)))))))))) = subst IsLiveStmt (sym is) (of_query mid query mid2 of)

  -- any
  of_statement : Gives IsLiveStmt (IsStatement script strict)
  unfolding IsStatement IsBody
  of_statement ts x rest (y, mid, (inl h), (_, _, _, (is, end))) = subst IsLiveStmt (sym is) (of_change ts y mid h)
  of_statement ts x rest (y, mid, (inr (inl h)), (_, _, _, (is, end))) = subst IsLiveStmt (sym is) (of_file ts y mid h)
  of_statement ts x rest (y, mid, (inr (inr h)), (_, _, _, (is, end))) = subst IsLiveStmt (sym is) (of_answer ts y mid h)

-- the statements of a script
pub script_live : (script : List ℕ) (tokens : List Token) (stmts : List Stmt) → IsScript script tokens stmts → All IsLiveStmt stmts
script_live script tokens stmts good = All-from_recursion IsLiveStmt stmts (all (pieces (lexemes_of script tokens)) stmts good)
  where
    all : (parts : List (List Lexeme)) (stmts : List Stmt) → AreGood script parts stmts → AllByRecursion IsLiveStmt stmts
    all [] [] good = tt
    all (part ∷ parts) (stmt ∷ stmts) good = (of_statement script true part stmt [] good.0.1, all parts stmts good.1)
    all [] (stmt ∷ stmts) good = absurd good
    all (part ∷ parts) [] good = absurd good
