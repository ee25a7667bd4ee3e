-- The readers of statements, one for each rule of their grammar.
use Rattle.std.specs.Prelude.{ℕ, ℤ, pos, Bool, true, false, List, [], Option, Some, None, int_le, if◌then◌else◌, ◌&&◌, ◌||◌}
use Rattle.og_base.specs.Calendar.{first_day, last_day}
use Rattle.og_value.specs.declared.schema.Column.{Column}
use Rattle.og_value.specs.declared.value.Value.{Value}
use Rattle.og_syntax.specs.declared.lexeme.Sort.{Sort}
use Rattle.og_syntax.specs.declared.lexeme.Sort.TheVariants as k
use Rattle.og_syntax.specs.declared.lexeme.Lexeme.{Lexeme}
use Rattle.og_syntax.specs.declared.tree.CondText.{CondText}
use Rattle.og_syntax.specs.declared.tree.SetText.{SetText}
use Rattle.og_syntax.specs.declared.tree.Stmt.{Stmt}
use Rattle.og_syntax.specs.declared.tree.Stmt.TheVariants as s
use Rattle.og_syntax.specs.Reading.{Reads, Outcome, ◌>>=◌, ◌>>◌, pure, given, choose, tok, worded, joined, optional, past, single}
use Rattle.og_syntax.specs.Lexemes.{is}
use Rattle.og_syntax.specs.Reader.{name, quoted, text, lit, expr, cond, query}
use Rattle.og_syntax.specs.TextValues.{day_of}
use Rattle.og_parse.specs.Statements.{kind_of, column_of, set_of}

-- the day, where it is a reference day
abbrev pub ref_day_from : Option ℤ → Option ℤ
ref_day_from (Some n) = if int_le first_day n && int_le n last_day then Some n else None
ref_day_from None = None

-- the reference day of a day text
unfoldable pub ref_day_of : List ℕ → Option ℤ
ref_day_of text = ref_day_from (day_of text)

-- that day, or the day 0 where texts need not be of their form
abbrev pub day_by : Bool → Option ℤ → Option ℤ
day_by true day = day
day_by false day = Some (pos 0)

-- ---- parts of statements

-- a name and the word of its kind
unfoldable pub coldef : List ℕ → Reads Column
coldef script = do x ← name script; kind ← worded kind_of; pure (column_of x kind)

-- columns with commas between them
unfoldable pub coldefs : List ℕ → Reads (List Column)
coldefs script = joined (coldef script) (is k.Comma) (past k.Comma (coldef script))

-- literals with commas between them
unfoldable pub lits : List ℕ → Bool → Reads (List Value)
lits script strict = joined (lit script strict) (is k.Comma) (past k.Comma (lit script strict))

-- literals in parentheses
unfoldable pub tuple : List ℕ → Bool → Reads (List Value)
tuple script strict = single (lits script strict)

-- tuples with commas between them
unfoldable pub tuples : List ℕ → Bool → Reads (List (List Value))
tuples script strict = joined (tuple script strict) (is k.Comma) (past k.Comma (tuple script strict))

-- a column and its new value
unfoldable pub set : List ℕ → Bool → Reads SetText
set script strict = do x ← name script; tok k.Equal; y ← expr script strict; pure (set_of x y)

-- assignments with commas between them
unfoldable pub sets : List ℕ → Bool → Reads (List SetText)
sets script strict = joined (set script strict) (is k.Comma) (past k.Comma (set script strict))

-- a condition after WHERE, or none
unfoldable pub where_cond : List ℕ → Bool → Reads (Option CondText)
where_cond script strict = optional (is k.Where) (past k.Where (cond script strict))

-- the text of the day after AS OF
unfoldable pub as_of_text : List ℕ → Reads (List ℕ)
as_of_text script = do tok k.As; tok k.Of; tok k.Date; quoted script

-- the day after AS OF
unfoldable pub as_of : List ℕ → Bool → Reads ℤ
as_of script strict = do z ← as_of_text script; given (day_by strict (ref_day_of z))

-- ---- statements that change tables

-- CREATE TABLE
unfoldable pub create : List ℕ → Reads Stmt
create script = do tok k.Create; tok k.Table; x ← name script; xs ← single (coldefs script); pure (s.Create x xs)

-- INSERT
unfoldable pub insert : List ℕ → Bool → Reads Stmt
insert script strict = do tok k.Insert; tok k.Into; x ← name script; tok k.Values; xs ← tuples script strict; pure (s.Insert x xs)

-- DELETE
unfoldable pub delete : List ℕ → Bool → Reads Stmt
delete script strict = do tok k.Delete; tok k.From; x ← name script; w ← where_cond script strict; pure (s.Delete x w)

-- UPDATE
unfoldable pub update : List ℕ → Bool → Reads Stmt
update script strict = do tok k.Update; x ← name script; tok k.Set; xs ← sets script strict; w ← where_cond script strict; pure (s.Update x xs w)

-- DROP
unfoldable pub drop_name : List ℕ → Reads Stmt
drop_name script = do tok k.Drop; x ← name script; pure (s.Drop x)

-- a statement that changes tables, by its first word
unfoldable pub change : List ℕ → Bool → Reads Stmt
change script strict =
    choose (is k.Create) (create script)
    (choose (is k.Insert) (insert script strict)
    (choose (is k.Delete) (delete script strict)
    (choose (is k.Update) (update script strict)
    (drop_name script))))

-- the words with which such a statement begins
abbrev pub begins_change : Sort → Bool
begins_change a = is k.Create a || is k.Insert a || is k.Delete a || is k.Update a || is k.Drop a

-- ---- statements of files

-- SAVE
unfoldable pub save : List ℕ → Reads Stmt
save script = do tok k.Save; x ← name script; tok k.To; z ← text script; pure (s.Save x z)

-- OPEN
unfoldable pub open_file : List ℕ → Reads Stmt
open_file script = do tok k.Open; x ← name script; tok k.From; z ← text script; pure (s.OpenFile x z)

-- IMPORT
unfoldable pub import_into : List ℕ → Reads Stmt
import_into script = do tok k.Import; tok k.Into; x ← name script; tok k.From; z ← text script; pure (s.ImportFile x z)

-- a statement of files, by its first word
unfoldable pub file_statement : List ℕ → Reads Stmt
file_statement script = choose (is k.Save) (save script) (choose (is k.Open) (open_file script) (import_into script))

-- the words with which such a statement begins
abbrev pub begins_file_statement : Sort → Bool
begins_file_statement a = is k.Save a || is k.Open a || is k.Import a

-- ---- statements that tell or keep something

-- TABLES
unfoldable pub tables_alone : Reads Stmt
tables_alone = do tok k.Tables; pure s.Tables

-- KEEP
unfoldable pub keep : List ℕ → Bool → Reads Stmt
keep script strict = do tok k.Keep; x ← name script; tok k.As; q ← query script strict false; pure (s.Keep x q)

-- a name and its day
unfoldable pub name_as_of : List ℕ → Bool → Reads Stmt
name_as_of script strict = do x ← name script; day ← as_of script strict; pure (s.PrintName x day)

-- a query and its day
unfoldable pub query_as_of : List ℕ → Bool → Reads Stmt
query_as_of script strict = do q ← query script strict false; day ← as_of script strict; pure (s.PrintQuery q day)

-- PRINT of a name, or of a query
unfoldable pub print : List ℕ → Bool → Reads Stmt
print script strict = past k.Print (choose (is k.Name) (name_as_of script strict) (query_as_of script strict))

-- EXPLAIN
unfoldable pub explain : List ℕ → Bool → Reads Stmt
explain script strict = do tok k.Explain; q ← query script strict false; pure (s.Explain q)

-- VALID
unfoldable pub valid : List ℕ → Bool → Reads Stmt
valid script strict = do tok k.Valid; x ← name script; day ← as_of script strict; pure (s.Valid x day)

-- LIVE
unfoldable pub live : List ℕ → Bool → Reads Stmt
live script strict = do tok k.Live; x ← name script; tok k.As; q ← query script strict true; pure (s.Live x q)

-- a statement that tells or keeps something, by its first word
unfoldable pub answer : List ℕ → Bool → Reads Stmt
answer script strict =
    choose (is k.Tables) tables_alone
    (choose (is k.Keep) (keep script strict)
    (choose (is k.Print) (print script strict)
    (choose (is k.Explain) (explain script strict)
    (choose (is k.Valid) (valid script strict)
    (live script strict)))))

-- ---- any statement

-- any statement, by its first word
unfoldable pub body : List ℕ → Bool → Reads Stmt
body script strict = choose begins_change (change script strict) (choose begins_file_statement (file_statement script) (answer script strict))

-- a statement and its semicolon
unfoldable pub statement : List ℕ → Bool → Reads Stmt
statement script strict = do x ← body script strict; tok k.Semicolon; pure x

-- the statement where no lexeme is left
abbrev pub all_from : Outcome Stmt → Option Stmt
all_from (Some (x, [])) = Some x
all_from _ = None

-- the statement that all of the lexemes are
unfoldable pub whole : List ℕ → Bool → List Lexeme → Option Stmt
whole script strict ts = all_from (statement script strict ts)
