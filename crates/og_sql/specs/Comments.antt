-- The text of a statement as a comment of SQL, and what asks psql to write a line.
use Rattle.std.specs.Prelude.{◌++◌, ◌-◌, ◌∷◌, [], ℕ, List, codes, length, take}
use Rattle.og_lex.specs.Bytes.{quoted}
use Rattle.og_syntax.specs.declared.tree.Stmt.{Stmt}
use Rattle.og_print.specs.Statements.{stmt_words}
use Rattle.og_print.specs.Words.{with_words}
use Rattle.og_sql_text.specs.Texts.{comment}

-- bytes without the last one
abbrev pub without_last : List ℕ → List ℕ
without_last bytes = take (length bytes - 1) bytes

-- the text of a statement as a script has it, without the line feed at its end
abbrev pub stmt_line : Stmt → List ℕ
stmt_line stmt = without_last (with_words [] (stmt_words stmt))

-- the comment that stands above the SQL of a statement
abbrev pub comment_above : Stmt → List ℕ
comment_above stmt = codes "\n" ++ comment (stmt_line stmt)

-- what asks psql to write a line, or nothing where there is none
abbrev pub told : List ℕ → List ℕ
told [] = []
told (b ∷ line) = codes "\nSELECT " ++ quoted (without_last (b ∷ line)) ++ codes ";\n"
