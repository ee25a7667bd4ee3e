-- The lexeme of each token of a script.
use Rattle.std.specs.Prelude.{ℕ, ℤ, pos, List, map}
use Rattle.og_lex.specs.declared.symbol.Symbol.{Symbol}
use Rattle.og_lex.specs.declared.symbol.Symbol.TheVariants as symbols
use Rattle.og_lex.specs.declared.token.Token.{Token}
use Rattle.og_lex.specs.declared.token.TokenKind.{TokenKind}
use Rattle.og_lex.specs.declared.token.TokenKind.TheVariants as kinds
use Rattle.og_syntax.specs.declared.lexeme.Sort.{Sort}
use Rattle.og_syntax.specs.declared.lexeme.Sort.TheVariants as k
use Rattle.og_syntax.specs.declared.lexeme.Lexeme.{Lexeme}
use Rattle.og_syntax.specs.Spans.{spelling}
use Rattle.og_syntax.specs.Words.{sort_of_word}

-- the sort of a symbol
abbrev pub sort_of_symbol : Symbol → Sort
sort_of_symbol symbols.LeftParen = k.LeftParen
sort_of_symbol symbols.RightParen = k.RightParen
sort_of_symbol symbols.Comma = k.Comma
sort_of_symbol symbols.Semicolon = k.Semicolon
sort_of_symbol symbols.Dot = k.Dot
sort_of_symbol symbols.Star = k.Star
sort_of_symbol symbols.Equal = k.Equal
sort_of_symbol symbols.NotEqual = k.NotEqual
sort_of_symbol symbols.LessEqual = k.LessEqual
sort_of_symbol symbols.GreaterEqual = k.GreaterEqual
sort_of_symbol symbols.Less = k.Less
sort_of_symbol symbols.Greater = k.Greater

-- a lexeme at the place of the token
abbrev pub at_token : Token → Sort → ℤ → Lexeme
at_token token sort number = record { sort = sort; number = number; start = token.start; end = token.end }

-- the lexeme of a token of that kind: a number keeps its value
abbrev pub lexeme_by : List ℕ → Token → TokenKind → Lexeme
lexeme_by script token kinds.Word = at_token token (sort_of_word (spelling script (at_token token k.Name (pos 0)))) (pos 0)
lexeme_by script token (kinds.Number n) = at_token token k.Number n
lexeme_by script token kinds.Text = at_token token k.Quoted (pos 0)
lexeme_by script token (kinds.Sym symbol) = at_token token (sort_of_symbol symbol) (pos 0)

-- the lexeme of a token
unfoldable pub lexeme_of : List ℕ → Token → Lexeme
lexeme_of script token = lexeme_by script token token.kind

-- the lexemes of the tokens of a script
abbrev pub lexemes_of : List ℕ → List Token → List Lexeme
lexemes_of script tokens = map (lexeme_of script) tokens
