-- The token grammar: which tokens a script has, by cases on its bytes.
use Rattle.std.specs.Prelude.{◌≡◌, ◌+◌, ◌≤◌, ◌<◌, ◌++◌, ◌||◌, ◌==◌, ℕ, ℤ, Bool, false, List, [], ◌∷◌, length, drop, codes, slice_range, IsTrue}
use Rattle.std.specs.Char.{is_ascii_digit}
use Rattle.std.specs.Str.{IsUtf8}
use Rattle.og_base.specs.Letters.{begins_word, is_in_word}
use Rattle.og_lex.specs.Bytes.{is_blank, is_in_line, is_quote, Stops, IsRun, unsigned, value_of, IsIn64, quoted}
use Rattle.og_lex.specs.declared.symbol.Symbol.{Symbol}
use Rattle.og_lex.specs.declared.symbol.Symbol.TheVariants as symbols
use Rattle.og_lex.specs.declared.token.Token.{Token}
use Rattle.og_lex.specs.declared.token.TokenKind.{TokenKind}
use Rattle.og_lex.specs.declared.token.TokenKind.TheVariants as kinds

-- `--`, then all bytes before the next line feed or the end
abbrev pub IsComment : List ℕ → List ℕ → Type 0
IsComment text rest = (words : List ℕ) × (text ≡ codes "--" ++ words) × IsRun is_in_line words rest

-- a letter or `_`, then all letters, digits and `_` that follow
abbrev pub IsWord : List ℕ → List ℕ → Type 0
IsWord text rest = (b : ℕ) × (z : List ℕ) × (text ≡ b ∷ z) × IsTrue (begins_word b) × IsRun is_in_word z rest

-- an optional `-`, then all digits that follow, one or more
pub record IsNumeral (text rest : List ℕ) : Type 0 where
  pub digits : IsRun is_ascii_digit (unsigned text) rest
  pub some : 0 < length (unsigned text)

-- a numeral with this value
pub record IsNumber (n : ℤ) (text rest : List ℕ) : Type 0 where
  pub numeral : IsNumeral text rest
  pub value : n ≡ value_of text
  pub fits : IsIn64 n

-- this content between quotes, each quote of it doubled, and no further quote after it
pub record IsQuoted (content text rest : List ℕ) : Type 0 where
  pub between : text ≡ quoted content
  pub closed : Stops is_quote rest

-- the bytes of a symbol
abbrev pub symbol_text : Symbol → List ℕ
symbol_text symbols.LeftParen = codes "("
symbol_text symbols.RightParen = codes ")"
symbol_text symbols.Comma = codes ","
symbol_text symbols.Semicolon = codes ";"
symbol_text symbols.Dot = codes "."
symbol_text symbols.Star = codes "*"
symbol_text symbols.Equal = codes "="
symbol_text symbols.NotEqual = codes "<>"
symbol_text symbols.LessEqual = codes "<="
symbol_text symbols.GreaterEqual = codes ">="
symbol_text symbols.Less = codes "<"
symbol_text symbols.Greater = codes ">"

-- the bytes with which a symbol is a longer one
abbrev pub makes_longer : Symbol → ℕ → Bool
makes_longer symbols.Less b = b == 62 || b == 61
makes_longer symbols.Greater b = b == 61
makes_longer _ b = false

-- the longest symbol
pub record IsSymbol (symbol : Symbol) (text rest : List ℕ) : Type 0 where
  pub same : text ≡ symbol_text symbol
  pub longest : Stops (makes_longer symbol) rest

-- the bytes are a token of this kind where these follow
abbrev pub IsToken : TokenKind → List ℕ → List ℕ → Type 0
IsToken kinds.Word text rest = IsWord text rest
IsToken (kinds.Number n) text rest = IsNumber n text rest
IsToken kinds.Text text rest = (content : List ℕ) × IsQuoted content text rest × IsUtf8 content
IsToken (kinds.Sym symbol) text rest = IsSymbol symbol text rest

-- from one place to another, each with the bytes that follow it: no tokens where the two are one place, and
-- else a blank byte, a comment or a token, and what comes after it
pub data Reads : ℕ → List ℕ → List Token → ℕ → List ℕ → Type 0 where
  stops : (at : ℕ) (z : List ℕ) → Reads at z [] at z
  past_blank : (at b : ℕ) (z : List ℕ) (tokens : List Token) (end : ℕ) (rest : List ℕ)
      → IsTrue (is_blank b) → Reads (at + 1) z tokens end rest → Reads at (b ∷ z) tokens end rest
  past_comment : (at : ℕ) (text z : List ℕ) (tokens : List Token) (end : ℕ) (rest : List ℕ)
      → IsComment text z → Reads (at + length text) z tokens end rest → Reads at (text ++ z) tokens end rest
  past_token : (at : ℕ) (kind : TokenKind) (text z : List ℕ) (tokens : List Token) (end : ℕ) (rest : List ℕ)
      → IsToken kind text z → Reads (at + length text) z tokens end rest
      → Reads at (text ++ z) (record { kind = kind; start = at; end = at + length text } ∷ tokens) end rest

-- the tokens of a script
abbrev pub IsLexed : List ℕ → List Token → Type 0
IsLexed script tokens = Reads 0 script tokens (length script) []

-- the bytes of a token
abbrev pub bytes_of : List ℕ → Token → List ℕ
bytes_of script token = slice_range script token.start token.end

-- tokens from one place to another, each with a byte or more, and none before the end of the one before it
abbrev pub Rise : ℕ → List Token → ℕ → Type 0
Rise from [] most = from ≤ most
Rise from (token ∷ tokens) most = (from ≤ token.start) × (token.start < token.end) × Rise token.end tokens most

-- what a token says of its bytes and those after it
pub record IsTokenOf (script : List ℕ) (token : Token) : Type 0 where
  pub some : token.start < token.end
  pub within : token.end ≤ length script
  pub same : IsToken token.kind (bytes_of script token) (drop token.end script)

-- the content between the quotes of a token
pub record IsTextAt (script : List ℕ) (token : Token) (content : List ℕ) : Type 0 where
  pub within : token.end ≤ length script
  pub between : bytes_of script token ≡ quoted content

-- the bytes of the token are a text
abbrev pub HasText : List ℕ → Token → Type 0
HasText script token = (content : List ℕ) × IsTextAt script token content
