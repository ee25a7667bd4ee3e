-- The words of statements and of scripts.
use Rattle.std.specs.Prelude.{ℕ, ℤ, List, [], ◌∷◌, ◌++◌, Option}
use Rattle.og_base.specs.Calendar.{day_text}
use Rattle.og_value.specs.declared.kind.Kind.{Kind}
use Rattle.og_value.specs.declared.kind.Kind.TheVariants as kinds
use Rattle.og_value.specs.declared.schema.Column.{Column}
use Rattle.og_value.specs.declared.value.Value.{Value}
use Rattle.og_syntax.specs.declared.lexeme.Sort.{Sort}
use Rattle.og_syntax.specs.declared.lexeme.Sort.TheVariants as k
use Rattle.og_syntax.specs.declared.tree.CondText.{CondText}
use Rattle.og_syntax.specs.declared.tree.QueryText.{QueryText}
use Rattle.og_syntax.specs.declared.tree.SetText.{SetText}
use Rattle.og_syntax.specs.declared.tree.Stmt.{Stmt}
use Rattle.og_syntax.specs.declared.tree.Stmt.TheVariants as s
use Rattle.og_print.specs.Words.{Word, Plain, Named, Quoted, each, listed, enclosed, with_words}
use Rattle.og_print.specs.Expressions.{lit_words, expr_words}
use Rattle.og_print.specs.Queries.{cond_clause_words, query_words}

-- the word of a kind
abbrev pub kind_sort : Kind → Sort
kind_sort kinds.Int = k.Int
kind_sort kinds.Text = k.Text
kind_sort kinds.Date = k.Date
kind_sort kinds.Period = k.Period

-- a column and its kind
abbrev pub coldef_words : Column → List Word
coldef_words c = Named c.name ∷ Plain (kind_sort c.kind) ∷ []

-- columns with commas between them
abbrev pub coldefs_words : List Column → List Word
coldefs_words = listed coldef_words

-- literals with commas between them
abbrev pub lits_words : List Value → List Word
lits_words = listed lit_words

-- a row of literals in parentheses
abbrev pub tuple_words : List Value → List Word
tuple_words row = enclosed (lits_words row)

-- rows with commas between them
abbrev pub tuples_words : List (List Value) → List Word
tuples_words = listed tuple_words

-- an assignment
abbrev pub set_words : SetText → List Word
set_words x = Named x.column ∷ Plain k.Equal ∷ expr_words x.expr

-- assignments with commas between them
abbrev pub sets_words : List SetText → List Word
sets_words = listed set_words

-- AS OF and a day
abbrev pub as_of_words : ℤ → List Word
as_of_words day = Plain k.As ∷ Plain k.Of ∷ Plain k.Date ∷ Quoted (day_text day) ∷ []

-- CREATE TABLE
abbrev pub create_words : List ℕ → List Column → List Word
create_words name columns = Plain k.Create ∷ Plain k.Table ∷ Named name ∷ enclosed (coldefs_words columns)

-- INSERT
abbrev pub insert_words : List ℕ → List (List Value) → List Word
insert_words name rows = Plain k.Insert ∷ Plain k.Into ∷ Named name ∷ Plain k.Values ∷ tuples_words rows

-- DELETE
abbrev pub delete_words : List ℕ → Option CondText → List Word
delete_words name cond = Plain k.Delete ∷ Plain k.From ∷ Named name ∷ cond_clause_words cond

-- UPDATE
abbrev pub update_words : List ℕ → List SetText → Option CondText → List Word
update_words name sets cond = Plain k.Update ∷ Named name ∷ Plain k.Set ∷ sets_words sets ++ cond_clause_words cond

-- PRINT of a query at a day
abbrev pub print_words : QueryText → ℤ → List Word
print_words query day = Plain k.Print ∷ query_words query ++ as_of_words day

-- IMPORT
abbrev pub import_words : List ℕ → List ℕ → List Word
import_words name file = Plain k.Import ∷ Plain k.Into ∷ Named name ∷ Plain k.From ∷ Quoted file ∷ []

-- the words of a statement without its semicolon
abbrev pub body_words : Stmt → List Word
body_words (s.Create name columns) = create_words name columns
body_words (s.Insert name rows) = insert_words name rows
body_words (s.Delete name cond) = delete_words name cond
body_words (s.Update name sets cond) = update_words name sets cond
body_words (s.Drop name) = Plain k.Drop ∷ Named name ∷ []
body_words s.Tables = Plain k.Tables ∷ []
body_words (s.Keep name query) = Plain k.Keep ∷ Named name ∷ Plain k.As ∷ query_words query
body_words (s.PrintName name day) = Plain k.Print ∷ Named name ∷ as_of_words day
body_words (s.PrintQuery query day) = print_words query day
body_words (s.Save name file) = Plain k.Save ∷ Named name ∷ Plain k.To ∷ Quoted file ∷ []
body_words (s.OpenFile name file) = Plain k.Open ∷ Named name ∷ Plain k.From ∷ Quoted file ∷ []
body_words (s.ImportFile name file) = import_words name file
body_words (s.Explain query) = Plain k.Explain ∷ query_words query
body_words (s.Valid name day) = Plain k.Valid ∷ Named name ∷ as_of_words day
body_words (s.Live name query) = Plain k.Live ∷ Named name ∷ Plain k.As ∷ query_words query

-- the words of a statement
abbrev pub stmt_words : Stmt → List Word
stmt_words x = body_words x ++ Plain k.Semicolon ∷ []

-- the bytes of a script
abbrev pub script_text : List Stmt → List ℕ
script_text xs = with_words [] (each stmt_words xs)
