-- The reserved words.
use Rattle.std.specs.Prelude.{ℕ, List, [], ◌∷◌, codes, if◌then◌else◌}
use Rattle.std.specs.Str.{str_eq_ignore_ascii_case}
use Rattle.og_syntax.specs.declared.lexeme.Sort.{Sort}
use Rattle.og_syntax.specs.declared.lexeme.Sort.TheVariants as k
use Rattle.og_syntax.specs.Lexemes.{same_sort}

-- the reserved words in upper case, those of literals first, and the sort of each
abbrev pub reserved : List (List ℕ × Sort)
reserved =
    (codes "DATE", k.Date) ∷
    (codes "ONGOING", k.Ongoing) ∷
    (codes "PERIOD", k.Period) ∷
    (codes "AND", k.And) ∷
    (codes "AS", k.As) ∷
    (codes "BEFORE", k.Before) ∷
    (codes "COMMON", k.Common) ∷
    (codes "CONTAINS", k.Contains) ∷
    (codes "CREATE", k.Create) ∷
    (codes "DELETE", k.Delete) ∷
    (codes "DROP", k.Drop) ∷
    (codes "DURING", k.During) ∷
    (codes "EMPTY", k.Empty) ∷
    (codes "END", k.End) ∷
    (codes "EQUALS", k.Equals) ∷
    (codes "EXCEPT", k.Except) ∷
    (codes "EXISTS", k.Exists) ∷
    (codes "EXPLAIN", k.Explain) ∷
    (codes "FINISHES", k.Finishes) ∷
    (codes "FROM", k.From) ∷
    (codes "GREATEST", k.Greatest) ∷
    (codes "IMPORT", k.Import) ∷
    (codes "INSERT", k.Insert) ∷
    (codes "INT", k.Int) ∷
    (codes "INTERSECT", k.Intersect) ∷
    (codes "INTO", k.Into) ∷
    (codes "JOIN", k.Join) ∷
    (codes "KEEP", k.Keep) ∷
    (codes "LEAST", k.Least) ∷
    (codes "LIVE", k.Live) ∷
    (codes "MEETS", k.Meets) ∷
    (codes "NOT", k.Not) ∷
    (codes "OF", k.Of) ∷
    (codes "ON", k.On) ∷
    (codes "OPEN", k.Open) ∷
    (codes "OR", k.Or) ∷
    (codes "OVERLAPS", k.Overlaps) ∷
    (codes "PRINT", k.Print) ∷
    (codes "SAVE", k.Save) ∷
    (codes "SELECT", k.Select) ∷
    (codes "SET", k.Set) ∷
    (codes "START", k.Start) ∷
    (codes "STARTS", k.Starts) ∷
    (codes "TABLE", k.Table) ∷
    (codes "TABLES", k.Tables) ∷
    (codes "TEXT", k.Text) ∷
    (codes "TO", k.To) ∷
    (codes "UNION", k.Union) ∷
    (codes "UPDATE", k.Update) ∷
    (codes "VALID", k.Valid) ∷
    (codes "VALUES", k.Values) ∷
    (codes "WHERE", k.Where) ∷
    []

-- the sort that a list gives the word, without regard to ASCII case, and a name where it gives none
abbrev pub sort_in : List (List ℕ × Sort) → List ℕ → Sort
sort_in [] word = k.Name
sort_in (entry ∷ entries) word = if str_eq_ignore_ascii_case entry.0 word then entry.1 else sort_in entries word

-- the sort of a word
unfoldable pub sort_of_word : List ℕ → Sort
sort_of_word = sort_in reserved

-- the word to which a list gives the sort, and no bytes where there is none
abbrev pub word_in : List (List ℕ × Sort) → Sort → List ℕ
word_in [] sort = []
word_in (entry ∷ entries) sort = if same_sort entry.1 sort then entry.0 else word_in entries sort

-- the reserved word of a sort, in upper case
unfoldable pub word_of : Sort → List ℕ
word_of = word_in reserved
