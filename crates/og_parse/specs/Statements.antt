-- The grammar of statements, one rule for each of its lines. Where it is not strict, quoted texts need not be of their form.
use Rattle.std.specs.Prelude.{◌≡◌, ℕ, ℤ, pos, Bool, true, false, List, [], Option, Some, None}
use Rattle.og_base.specs.Calendar.{IsRefDayText}
use Rattle.og_value.specs.declared.kind.Kind.{Kind}
use Rattle.og_value.specs.declared.kind.Kind.TheVariants as kinds
use Rattle.og_value.specs.declared.schema.Column.{Column}
use Rattle.og_value.specs.declared.value.Value.{Value}
use Rattle.og_syntax.specs.declared.lexeme.Sort.{Sort}
use Rattle.og_syntax.specs.declared.lexeme.Sort.TheVariants as k
use Rattle.og_syntax.specs.declared.lexeme.Lexeme.{Lexeme}
use Rattle.og_syntax.specs.declared.tree.CondText.{CondText}
use Rattle.og_syntax.specs.declared.tree.ExprText.{ExprText}
use Rattle.og_syntax.specs.declared.tree.SetText.{SetText}
use Rattle.og_syntax.specs.declared.tree.Stmt.{Stmt}
use Rattle.og_syntax.specs.declared.tree.Stmt.TheVariants as s
use Rattle.og_syntax.specs.Rules.{Rule, ◌>>=◌, ◌>>◌, ◌or◌, pure, Given, Tok, Worded, Joined, Optional, Past, Single}
use Rattle.og_syntax.specs.Grammar.{IsName, IsQuoted, IsText, IsLit, IsExpr, IsCond, IsQuery}

-- the kind of a column by its word
abbrev pub kind_of : Sort → Option Kind
kind_of k.Int = Some kinds.Int
kind_of k.Text = Some kinds.Text
kind_of k.Date = Some kinds.Date
kind_of k.Period = Some kinds.Period
kind_of _ = None

-- a column with this name and kind
abbrev pub column_of : List ℕ → Kind → Column
column_of name kind = record { name = name; kind = kind }

-- the assignment of an expression to a column
abbrev pub set_of : List ℕ → ExprText → SetText
set_of column expr = record { column = column; expr = expr }

-- the reference day of a day text; where texts need not be of their form, the day 0 stands for each of them
abbrev pub IsDayOf : Bool → List ℕ → ℤ → Type 0
IsDayOf true text n = IsRefDayText text n
IsDayOf false text n = n ≡ pos 0

-- ---- parts of statements

-- coldef: name INT | name TEXT | name DATE | name PERIOD
unfoldable pub IsColdef : List ℕ → Rule Column
IsColdef script = do x ← IsName script; kind ← Worded kind_of; pure (column_of x kind)

-- tuple: ( lit (, lit)* )
unfoldable pub IsTuple : List ℕ → Bool → Rule (List Value)
IsTuple script strict = Single (Joined (IsLit script strict) (Past k.Comma (IsLit script strict)))

-- name = expr
unfoldable pub IsSet : List ℕ → Bool → Rule SetText
IsSet script strict = do x ← IsName script; Tok k.Equal; y ← IsExpr script strict; pure (set_of x y)

-- (WHERE cond)?
unfoldable pub IsWhereCond : List ℕ → Bool → Rule (Option CondText)
IsWhereCond script strict = Optional (Past k.Where (IsCond script strict))

-- AS OF DATE text
unfoldable pub IsAsOfText : List ℕ → Rule (List ℕ)
IsAsOfText script = do Tok k.As; Tok k.Of; Tok k.Date; IsQuoted script

-- AS OF DATE text, and the day of the text
unfoldable pub IsAsOf : List ℕ → Bool → Rule ℤ
IsAsOf script strict = do z ← IsAsOfText script; Given (IsDayOf strict z)

-- ---- statements that change tables

-- CREATE TABLE name ( coldef (, coldef)* )
unfoldable pub IsCreate : List ℕ → Rule Stmt
IsCreate script = do
  Tok k.Create
  Tok k.Table
  x ← IsName script
  xs ← Single (Joined (IsColdef script) (Past k.Comma (IsColdef script)))
  pure (s.Create x xs)

-- INSERT INTO name VALUES tuple (, tuple)*
unfoldable pub IsInsert : List ℕ → Bool → Rule Stmt
IsInsert script strict = do
  Tok k.Insert
  Tok k.Into
  x ← IsName script
  Tok k.Values
  xs ← Joined (IsTuple script strict) (Past k.Comma (IsTuple script strict))
  pure (s.Insert x xs)

-- DELETE FROM name (WHERE cond)?
unfoldable pub IsDelete : List ℕ → Bool → Rule Stmt
IsDelete script strict = do Tok k.Delete; Tok k.From; x ← IsName script; w ← IsWhereCond script strict; pure (s.Delete x w)

-- UPDATE name SET name = expr (, name = expr)* (WHERE cond)?
unfoldable pub IsUpdate : List ℕ → Bool → Rule Stmt
IsUpdate script strict = do
  Tok k.Update
  x ← IsName script
  Tok k.Set
  xs ← Joined (IsSet script strict) (Past k.Comma (IsSet script strict))
  w ← IsWhereCond script strict
  pure (s.Update x xs w)

-- DROP name
unfoldable pub IsDrop : List ℕ → Rule Stmt
IsDrop script = do Tok k.Drop; x ← IsName script; pure (s.Drop x)

-- a statement that changes tables
unfoldable pub IsChange : List ℕ → Bool → Rule Stmt
IsChange script strict = IsCreate script or IsInsert script strict or IsDelete script strict or IsUpdate script strict or IsDrop script

-- ---- statements of files

-- SAVE name TO text
unfoldable pub IsSave : List ℕ → Rule Stmt
IsSave script = do Tok k.Save; x ← IsName script; Tok k.To; z ← IsText script; pure (s.Save x z)

-- OPEN name FROM text
unfoldable pub IsOpen : List ℕ → Rule Stmt
IsOpen script = do Tok k.Open; x ← IsName script; Tok k.From; z ← IsText script; pure (s.OpenFile x z)

-- IMPORT INTO name FROM text
unfoldable pub IsImport : List ℕ → Rule Stmt
IsImport script = do Tok k.Import; Tok k.Into; x ← IsName script; Tok k.From; z ← IsText script; pure (s.ImportFile x z)

-- a statement of files
unfoldable pub IsFileStatement : List ℕ → Rule Stmt
IsFileStatement script = IsSave script or IsOpen script or IsImport script

-- ---- statements that tell or keep something

-- TABLES
unfoldable pub IsTables : Rule Stmt
IsTables = do Tok k.Tables; pure s.Tables

-- KEEP name AS query
unfoldable pub IsKeep : List ℕ → Bool → Rule Stmt
IsKeep script strict = do Tok k.Keep; x ← IsName script; Tok k.As; q ← IsQuery script strict false; pure (s.Keep x q)

-- name AS OF DATE text, after PRINT
unfoldable pub IsNameAsOf : List ℕ → Bool → Rule Stmt
IsNameAsOf script strict = do x ← IsName script; day ← IsAsOf script strict; pure (s.PrintName x day)

-- query AS OF DATE text, after PRINT
unfoldable pub IsQueryAsOf : List ℕ → Bool → Rule Stmt
IsQueryAsOf script strict = do q ← IsQuery script strict false; day ← IsAsOf script strict; pure (s.PrintQuery q day)

-- PRINT name AS OF DATE text | PRINT query AS OF DATE text
unfoldable pub IsPrint : List ℕ → Bool → Rule Stmt
IsPrint script strict = Past k.Print (IsNameAsOf script strict or IsQueryAsOf script strict)

-- EXPLAIN query
unfoldable pub IsExplain : List ℕ → Bool → Rule Stmt
IsExplain script strict = do Tok k.Explain; q ← IsQuery script strict false; pure (s.Explain q)

-- VALID name AS OF DATE text
unfoldable pub IsValid : List ℕ → Bool → Rule Stmt
IsValid script strict = do Tok k.Valid; x ← IsName script; day ← IsAsOf script strict; pure (s.Valid x day)

-- LIVE name AS lcore (UNION lcore)*
unfoldable pub IsLive : List ℕ → Bool → Rule Stmt
IsLive script strict = do Tok k.Live; x ← IsName script; Tok k.As; q ← IsQuery script strict true; pure (s.Live x q)

-- a statement that tells or keeps something
unfoldable pub IsAnswer : List ℕ → Bool → Rule Stmt
IsAnswer script strict = IsTables or IsKeep script strict or IsPrint script strict or IsExplain script strict or IsValid script strict or IsLive script strict

-- ---- any statement

-- body
unfoldable pub IsBody : List ℕ → Bool → Rule Stmt
IsBody script strict = IsChange script strict or IsFileStatement script or IsAnswer script strict

-- statement: body ;
unfoldable pub IsStatement : List ℕ → Bool → Rule Stmt
IsStatement script strict = do x ← IsBody script strict; Tok k.Semicolon; pure x

-- all of the lexemes are a statement
abbrev pub IsWhole : List ℕ → Bool → List Lexeme → Stmt → Type 0
IsWhole script strict ts x = IsStatement script strict ts x []
