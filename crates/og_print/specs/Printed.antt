-- Which scripts can be printed, and in which form.
use Rattle.std.specs.Prelude.{◌≡◌, ◌+◌, ℕ, List, [], ◌∷◌, length, slice_index, if◌then◌else◌, ⊤}
use Rattle.std.specs.Fmt.{signed_decimal}
use Rattle.std.specs.Str.{str_to_ascii_uppercase}
use Rattle.og_lex.specs.Grammar.{IsLexed, bytes_of}
use Rattle.og_lex.specs.declared.symbol.Symbol.TheVariants as symbols
use Rattle.og_lex.specs.declared.token.Token.{Token}
use Rattle.og_lex.specs.declared.token.TokenKind.{TokenKind}
use Rattle.og_lex.specs.declared.token.TokenKind.TheVariants as kinds
use Rattle.og_value.specs.Words.{folded}
use Rattle.og_syntax.specs.declared.lexeme.Sort.TheVariants as k
use Rattle.og_syntax.specs.Lexemes.{is}
use Rattle.og_syntax.specs.Words.{sort_of_word}
use Rattle.og_syntax.specs.declared.tree.Stmt.{Stmt}
use Rattle.og_parse.specs.Script.{IsScript}

-- the bytes are a script of these statements
abbrev pub IsTextOf : List ℕ → List Stmt → Type 0
IsTextOf bytes stmts = (tokens : List Token) × IsLexed bytes tokens × IsScript bytes tokens stmts

-- some bytes are a script of these statements
abbrev pub IsPrintable : List Stmt → Type 0
IsPrintable stmts = (bytes : List ℕ) × IsTextOf bytes stmts

-- a word in the case in which it is printed: a name in lower case, a reserved word in upper case
abbrev pub in_case : List ℕ → List ℕ
in_case word = if is k.Name (sort_of_word word) then folded word else str_to_ascii_uppercase word

-- the bytes of a token are those that are printed: a word in its case, a number in decimal
abbrev pub IsSpelled : TokenKind → List ℕ → Type 0
IsSpelled kinds.Word z = z ≡ in_case z
IsSpelled (kinds.Number n) z = z ≡ signed_decimal n
IsSpelled _ z = ⊤

-- the blank after a token: a line feed after a semicolon, else a space
abbrev pub blank_of : TokenKind → ℕ
blank_of (kinds.Sym symbols.Semicolon) = 10
blank_of _ = 32

-- from a place on, each token is spelled as it is printed, with one blank after it, and nothing else is there
abbrev pub IsLaidOut : List ℕ → ℕ → List Token → Type 0
IsLaidOut text at [] = length text ≡ at
IsLaidOut text at (token ∷ tokens) =
    (token.start ≡ at) × IsSpelled token.kind (bytes_of text token) × (slice_index text token.end ≡ blank_of token.kind) × IsLaidOut text (token.end + 1) tokens

-- the bytes have the one form in which tokens are printed
abbrev pub IsPrinted : List ℕ → Type 0
IsPrinted text = (tokens : List Token) × IsLexed text tokens × IsLaidOut text 0 tokens
