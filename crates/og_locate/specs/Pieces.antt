-- The lexemes of a statement, by its number.
use Rattle.std.specs.Prelude.{◌≡◌, ◌⊎◌, ◌-◌, ℕ, List, Some, drop, length, slice_get}
use Rattle.og_lex.specs.Grammar.{Reads}
use Rattle.og_lex.specs.Endings.{EndsStatement}
use Rattle.og_lex.specs.declared.token.Token.{Token}
use Rattle.og_syntax.specs.declared.lexeme.Lexeme.{Lexeme}
use Rattle.og_parse.specs.Script.{pieces}
use Rattle.og_parse.specs.Tokens.{lexemes_of}

-- the lexemes of the statement with that number, counted from 1: up to a place where a statement or the script ends, the tokens of the script have them as their piece of that number
abbrev pub IsPieceAt : List ℕ → ℕ → List Lexeme → Type 0
IsPieceAt script number piece =
    (tokens : List Token) × (end : ℕ) × Reads 0 script tokens end (drop end script) × ((end ≡ length script) ⊎ EndsStatement tokens)
    × (slice_get (pieces (lexemes_of script tokens)) (number - 1) ≡ Some piece)
