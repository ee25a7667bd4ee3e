-- The lexeme from which on a statement is too deep.
use Rattle.std.specs.Prelude.{◌≡◌, ◌+◌, ◌<◌, ◌≤◌, ℕ, true, false, List, length, take}
use Rattle.og_syntax.specs.declared.lexeme.Lexeme.{Lexeme}
use Rattle.og_parse.specs.Depth.{is_too_deep}

-- the front of that many lexemes is not too deep, and the longer one is
pub record IsBetween (piece : List Lexeme) (low high : ℕ) : Type 0 where
  pub flat : is_too_deep (take low piece) ≡ false
  pub deep : is_too_deep (take high piece) ≡ true
  pub rises : low < high
  pub within : high ≤ length piece

-- the lexemes before the place are not too deep, and with the one there they are
abbrev pub IsDeepAt : List Lexeme → ℕ → Type 0
IsDeepAt piece at = IsBetween piece at (at + 1)
