-- Where statements end.
use Rattle.std.specs.Prelude.{◌≡◌, ◌++◌, Bool, true, false, List, [], ◌∷◌}
use Rattle.og_lex.specs.declared.symbol.Symbol.TheVariants.{Semicolon}
use Rattle.og_lex.specs.declared.token.Token.{Token}
use Rattle.og_lex.specs.declared.token.TokenKind.{TokenKind}
use Rattle.og_lex.specs.declared.token.TokenKind.TheVariants.{Sym}

-- a semicolon
abbrev pub is_semicolon : TokenKind → Bool
is_semicolon (Sym Semicolon) = true
is_semicolon _ = false

-- the last token is a semicolon
abbrev pub EndsStatement : List Token → Type 0
EndsStatement tokens = (before : List Token) × (last : Token) × (tokens ≡ before ++ last ∷ []) × (last.kind ≡ Sym Semicolon)
