-- What may follow the parts of the grammar, by the sort of the first lexeme after them, and by whether a name comes after that one.
use Rattle.std.specs.Prelude.{◌≡◌, Bool, true, false, not, ◌&&◌, List, drop}
use Rattle.og_syntax.specs.declared.lexeme.Sort.{Sort}
use Rattle.og_syntax.specs.declared.lexeme.Sort.TheVariants as k
use Rattle.og_syntax.specs.declared.lexeme.Lexeme.{Lexeme}
use Rattle.og_syntax.specs.Lexemes.{is, sort_at, sees}
use Rattle.og_syntax.specs.Meanings.{set_op_of}
use Rattle.og_syntax.specs.Reading.{Reads, got, has}
use Rattle.og_syntax.specs.Rules.{Rule}
use Rattle.og_syntax.specs.Reader.{goes_on}

-- a test of the lexemes that come
abbrev pub ahead : (Sort → Bool → Bool) → List Lexeme → Bool
ahead follow ts = follow (sort_at ts) (sees k.Name (drop 1 ts))

-- whatever comes
abbrev pub anything : Sort → Bool → Bool
anything a named = true

-- a dot goes on with an expression
abbrev pub after_expr : Sort → Bool → Bool
after_expr a named = not (is k.Dot a)

-- AND goes on with a conjunction
abbrev pub after_conj : Sort → Bool → Bool
after_conj a named = after_expr a named && not (is k.And a)

-- OR goes on with a condition
abbrev pub after_cond : Sort → Bool → Bool
after_cond a named = after_conj a named && not (is k.Or a)

-- a name is an alias, and so is a name after AS
abbrev pub after_alias : Sort → Bool → Bool
after_alias a named = not (is k.Name a) && not (is k.As a && named)

-- AS goes on with an item
abbrev pub after_item : Sort → Bool → Bool
after_item a named = after_expr a named && not (is k.As a)

-- a comma goes on with the items
abbrev pub after_items : Sort → Bool → Bool
after_items a named = after_item a named && not (is k.Comma a)

-- what goes on with an alias or with a condition goes on with a table
abbrev pub after_table : Sort → Bool → Bool
after_table a named = after_alias a named && after_cond a named

-- a comma or JOIN goes on with the tables
abbrev pub after_tables : Sort → Bool → Bool
after_tables a named = after_table a named && not (goes_on a)

-- WHERE goes on with a sub-select
abbrev pub after_sub : Sort → Bool → Bool
after_sub a named = after_table a named && not (is k.Where a)

-- AND goes on with conditions of EXISTS
abbrev pub after_semis : Sort → Bool → Bool
after_semis a named = not (is k.And a)

-- WHERE goes on with a core
abbrev pub after_core : Sort → Bool → Bool
after_core a named = after_tables a named && not (is k.Where a)

-- an operator between cores goes on with a query
abbrev pub after_query : Sort → Bool → Bool
after_query a named = after_core a named && not (has (set_op_of false) a)

-- What is read is by the rule, what is by the rule is read where such lexemes follow, and one list of lexemes is by the rule in one way at most where such lexemes follow.
pub record IsReaderOf {A : Type 0} (follow : Sort → Bool → Bool) (p : Reads A) (P : Rule A) : Type 0 where
  pub sound : (ts : List Lexeme) (x : A) (rest : List Lexeme) → p ts ≡ got x rest → P ts x rest
  pub complete : (ts : List Lexeme) (x : A) (rest : List Lexeme) → P ts x rest → ahead follow rest ≡ true → p ts ≡ got x rest
  pub only : (ts : List Lexeme) (x y : A) (r s : List Lexeme) → P ts x r → P ts y s → ahead follow r ≡ true → ahead follow s ≡ true → (x ≡ y) × (r ≡ s)
