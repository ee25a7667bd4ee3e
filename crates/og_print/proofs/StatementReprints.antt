-- Statements are by their rules again when they are printed.
use Rattle.std.proofs.Common.{◌≡◌, inr, ℕ, ℤ, true, false, List, [], ◌∷◌, refl, sym, ap}
use Rattle.og_base.specs.Calendar.{day_text}
use Rattle.og_value.specs.declared.kind.Kind.{Kind}
use Rattle.og_value.specs.declared.kind.Kind.TheVariants as kinds
use Rattle.og_syntax.specs.declared.lexeme.Sort.TheVariants as k
use Rattle.og_syntax.specs.declared.lexeme.Lexeme.{Lexeme}
use Rattle.og_syntax.specs.declared.tree.Stmt.TheVariants as s
use Rattle.og_syntax.specs.Lexemes.{same_sort}
use Rattle.og_syntax.specs.Rules.{Rule, ◌or◌, Given, Tok, Joined, Optional, Past, Single}
use Rattle.og_syntax.specs.Rules as rules_
use Rattle.og_parse.specs.Depth.{opened_after}
use Rattle.og_parse.specs.Statements as st
use Rattle.og_parse.specs.Statements.{kind_of, column_of, set_of, IsDayOf, IsColdef, IsTuple, IsSet, IsWhereCond, IsAsOfText, IsAsOf, IsCreate, IsInsert, IsDelete, IsUpdate, IsDrop, IsChange, IsSave, IsOpen, IsImport, IsFileStatement, IsKeep, IsNameAsOf, IsQueryAsOf, IsPrint, IsExplain, IsValid, IsLive, IsAnswer, IsBody}
use Rattle.og_print.specs.Words.{Word, Plain, Quoted}
use Rattle.og_print.specs.Queries.{cond_clause_words}
use Rattle.og_print.specs.Statements.{kind_sort, coldef_words, tuple_words, set_words, as_of_words, body_words}
use Rattle.og_print.proofs.TextsAgain.{day_again}
use Rattle.og_print.proofs.Reprints.{Reprints, again-pure, again-bind, again-behind, again-map, again-or, again-like, again-joined, again-after, again-past, again-worded, again-single}
use Rattle.og_print.proofs.ExpressionReprints.{IsMarked, flat_pair, again-name, again-text, again-marked, again-lit, again-expr}
use Rattle.og_print.proofs.QueryReprints.{again-cond_clause, again-query}

-- ---- parts of statements

-- the word of a kind is no parenthesis
flat-kind : (kind : Kind) (n : ℕ) → opened_after n (kind_sort kind) ≡ n
flat-kind kinds.Int n = refl
flat-kind kinds.Text n = refl
flat-kind kinds.Date n = refl
flat-kind kinds.Period n = refl

-- a column and its kind
again-coldef : (script printed : List ℕ) → Reprints script printed (IsColdef script) (λ d. IsColdef printed) coldef_words []
unfolding IsColdef same_sort
again-coldef script printed = again-bind (again-name script printed) (λ x. again-map {w = coldef_words} (column_of x) (λ kind. refl) (again-worded kind_of kind_sort refl flat-kind))

-- a row of literals in parentheses
again-tuple : (script printed : List ℕ) → Reprints script printed (IsTuple script true) (λ d. IsTuple printed true) tuple_words []
unfolding IsTuple
again-tuple script printed = again-single (again-joined (again-lit script printed) (again-past k.Comma refl (λ n. refl) (again-lit script printed)))

-- an assignment
again-set : (script printed : List ℕ) → Reprints script printed (IsSet script true) (λ d. IsSet printed true) set_words []
unfolding IsSet
again-set script printed = again-bind (again-name script printed) (λ x. again-after k.Equal refl (λ n. refl) (again-map {w = set_words} (set_of x) (λ y. refl) (again-expr script printed)))

-- a condition after WHERE, or none
again-where_cond : (script printed : List ℕ) → Reprints script printed (IsWhereCond script true) (λ d. IsWhereCond printed true) cond_clause_words []
unfolding IsWhereCond
again-where_cond script printed = again-cond_clause script printed

-- AS OF and a day, in another order of its steps
abbrev AsOf : List ℕ → Rule ℤ
AsOf script = rules_.Bind (Tok k.As) (λ _. rules_.Bind (Tok k.Of) (λ _. IsMarked script k.Date (IsDayOf true)))

-- the two say the same
to_as_of : (script : List ℕ) (ts : List Lexeme) (x : ℤ) (rest : List Lexeme) → IsAsOf script true ts x rest → AsOf script ts x rest
unfolding IsAsOf IsAsOfText
to_as_of script ts x rest h =
    let a = h.2 in
    let o = a.3 in
    let d = o.3 in
    (a.0, a.1, a.2, (o.0, o.1, o.2, (d.0, d.1, d.2, (h.0, h.1, d.3, h.3))))

-- the two say the same
from_as_of : (script : List ℕ) (ts : List Lexeme) (x : ℤ) (rest : List Lexeme) → AsOf script ts x rest → IsAsOf script true ts x rest
unfolding IsAsOf IsAsOfText
from_as_of script ts x rest a =
    let o = a.3 in
    let d = o.3 in
    let h = d.3 in
    (h.0, h.1, (a.0, a.1, a.2, (o.0, o.1, o.2, (d.0, d.1, d.2, h.2))), h.3)

-- the words of a day after DATE
abbrev dated_words : ℤ → List Word
dated_words n = Plain k.Date ∷ Quoted (day_text n) ∷ []

-- the text of a reference day
day_kept : (z : List ℕ) (n : ℤ) → IsDayOf true z n → (dated_words n ≡ Plain k.Date ∷ Quoted z ∷ []) × IsDayOf true z n
day_kept z n r = (ap (λ y. Plain k.Date ∷ Quoted y ∷ []) (sym (day_again z n (inr (inr r)))), r)

-- AS OF and a day
again-as_of : (script printed : List ℕ) → Reprints script printed (IsAsOf script true) (λ d. IsAsOf printed true) as_of_words []
unfolding same_sort
again-as_of script printed =
    again-like (to_as_of script) (λ d. from_as_of printed)
    (again-after k.As refl (λ n. refl) (again-after k.Of refl (λ n. refl) (again-behind {f = dated_words} (λ n. refl)
    (again-marked script printed k.Date k.Date (IsDayOf true) (IsDayOf true) dated_words refl (flat_pair k.Date k.Date (λ n. refl) (λ n. refl) refl refl) day_kept))))

-- ---- statements that change tables

-- CREATE TABLE
again-create : (script printed : List ℕ) → Reprints script printed (IsCreate script) (λ d. IsCreate printed) body_words []
unfolding IsCreate
again-create script printed =
    again-after k.Create refl (λ n. refl) (again-after k.Table refl (λ n. refl) (again-bind (again-name script printed) (λ x.
    again-map {w = body_words} (s.Create x) (λ xs. refl) (again-single (again-joined (again-coldef script printed) (again-past k.Comma refl (λ n. refl) (again-coldef script printed)))))))

-- INSERT
again-insert : (script printed : List ℕ) → Reprints script printed (IsInsert script true) (λ d. IsInsert printed true) body_words []
unfolding IsInsert
again-insert script printed =
    again-after k.Insert refl (λ n. refl) (again-after k.Into refl (λ n. refl) (again-bind (again-name script printed) (λ x. again-after k.Values refl (λ n. refl)
    (again-map {w = body_words} (s.Insert x) (λ xs. refl) (again-joined (again-tuple script printed) (again-past k.Comma refl (λ n. refl) (again-tuple script printed)))))))

-- DELETE
again-delete : (script printed : List ℕ) → Reprints script printed (IsDelete script true) (λ d. IsDelete printed true) body_words []
unfolding IsDelete
again-delete script printed =
    again-after k.Delete refl (λ n. refl) (again-after k.From refl (λ n. refl) (again-bind (again-name script printed) (λ x. again-map {w = body_words} (s.Delete x) (λ w. refl) (again-where_cond script printed))))

-- UPDATE
again-update : (script printed : List ℕ) → Reprints script printed (IsUpdate script true) (λ d. IsUpdate printed true) body_words []
unfolding IsUpdate
again-update script printed =
    again-after k.Update refl (λ n. refl) (again-bind (again-name script printed) (λ x. again-after k.Set refl (λ n. refl)
    (again-bind (again-joined (again-set script printed) (again-past k.Comma refl (λ n. refl) (again-set script printed))) (λ xs.
    again-map {w = body_words} (s.Update x xs) (λ w. refl) (again-where_cond script printed)))))

-- DROP
again-drop : (script printed : List ℕ) → Reprints script printed (IsDrop script) (λ d. IsDrop printed) body_words []
unfolding IsDrop
again-drop script printed = again-after k.Drop refl (λ n. refl) (again-map {w = body_words} s.Drop (λ x. refl) (again-name script printed))

-- a statement that changes tables
again-change : (script printed : List ℕ) → Reprints script printed (IsChange script true) (λ d. IsChange printed true) body_words []
unfolding IsChange
again-change script printed = again-or (again-create script printed) (again-or (again-insert script printed) (again-or (again-delete script printed) (again-or (again-update script printed) (again-drop script printed))))

-- ---- statements of files

-- SAVE
again-save : (script printed : List ℕ) → Reprints script printed (IsSave script) (λ d. IsSave printed) body_words []
unfolding IsSave
again-save script printed =
    again-after k.Save refl (λ n. refl) (again-bind (again-name script printed) (λ x. again-after k.To refl (λ n. refl) (again-map {w = body_words} (s.Save x) (λ z. refl) (again-text script printed))))

-- OPEN
again-open : (script printed : List ℕ) → Reprints script printed (IsOpen script) (λ d. IsOpen printed) body_words []
unfolding IsOpen
again-open script printed =
    again-after k.Open refl (λ n. refl) (again-bind (again-name script printed) (λ x. again-after k.From refl (λ n. refl) (again-map {w = body_words} (s.OpenFile x) (λ z. refl) (again-text script printed))))

-- IMPORT
again-import : (script printed : List ℕ) → Reprints script printed (IsImport script) (λ d. IsImport printed) body_words []
unfolding IsImport
again-import script printed =
    again-after k.Import refl (λ n. refl) (again-after k.Into refl (λ n. refl) (again-bind (again-name script printed) (λ x.
    again-after k.From refl (λ n. refl) (again-map {w = body_words} (s.ImportFile x) (λ z. refl) (again-text script printed)))))

-- a statement of files
again-file_statement : (script printed : List ℕ) → Reprints script printed (IsFileStatement script) (λ d. IsFileStatement printed) body_words []
unfolding IsFileStatement
again-file_statement script printed = again-or (again-save script printed) (again-or (again-open script printed) (again-import script printed))

-- ---- statements that tell or keep something

-- TABLES
again-tables_alone : (script printed : List ℕ) → Reprints script printed st.IsTables (λ d. st.IsTables) body_words []
unfolding st.IsTables
again-tables_alone script printed = again-after k.Tables refl (λ n. refl) (again-pure refl)

-- KEEP
again-keep : (script printed : List ℕ) → Reprints script printed (IsKeep script true) (λ d. IsKeep printed true) body_words []
unfolding IsKeep
again-keep script printed =
    again-after k.Keep refl (λ n. refl) (again-bind (again-name script printed) (λ x. again-after k.As refl (λ n. refl) (again-map {w = body_words} (s.Keep x) (λ q. refl) (again-query script printed false))))

-- PRINT
again-print : (script printed : List ℕ) → Reprints script printed (IsPrint script true) (λ d. IsPrint printed true) body_words []
unfolding IsPrint IsNameAsOf IsQueryAsOf
again-print script printed =
    again-after k.Print refl (λ n. refl)
    (again-or (again-bind (again-name script printed) (λ x. again-map {w = body_words} (s.PrintName x) (λ day. refl) (again-as_of script printed)))
    (again-bind (again-query script printed false) (λ q. again-map {w = body_words} (s.PrintQuery q) (λ day. refl) (again-as_of script printed))))

-- EXPLAIN
again-explain : (script printed : List ℕ) → Reprints script printed (IsExplain script true) (λ d. IsExplain printed true) body_words []
unfolding IsExplain
again-explain script printed = again-after k.Explain refl (λ n. refl) (again-map {w = body_words} s.Explain (λ q. refl) (again-query script printed false))

-- VALID
again-valid : (script printed : List ℕ) → Reprints script printed (IsValid script true) (λ d. IsValid printed true) body_words []
unfolding IsValid
again-valid script printed = again-after k.Valid refl (λ n. refl) (again-bind (again-name script printed) (λ x. again-map {w = body_words} (s.Valid x) (λ day. refl) (again-as_of script printed)))

-- LIVE
again-live : (script printed : List ℕ) → Reprints script printed (IsLive script true) (λ d. IsLive printed true) body_words []
unfolding IsLive
again-live script printed =
    again-after k.Live refl (λ n. refl) (again-bind (again-name script printed) (λ x. again-after k.As refl (λ n. refl) (again-map {w = body_words} (s.Live x) (λ q. refl) (again-query script printed true))))

-- a statement that tells or keeps something
again-answer : (script printed : List ℕ) → Reprints script printed (IsAnswer script true) (λ d. IsAnswer printed true) body_words []
unfolding IsAnswer
again-answer script printed =
    again-or (again-tables_alone script printed) (again-or (again-keep script printed) (again-or (again-print script printed) (again-or (again-explain script printed) (again-or (again-valid script printed) (again-live script printed)))))

-- any statement without its semicolon
pub again-body : (script printed : List ℕ) → Reprints script printed (IsBody script true) (λ d. IsBody printed true) body_words []
unfolding IsBody
again-body script printed = again-or (again-change script printed) (again-or (again-file_statement script printed) (again-answer script printed))
