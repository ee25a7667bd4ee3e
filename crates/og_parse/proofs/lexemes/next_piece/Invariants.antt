use Rattle.std.proofs.Common.{◌≡◌, ◌++◌, drop, map, length}
use Rattle.og_parse.specs.Pieces.{piece_of}
use Rattle.og_parse.specs.Tokens.{lexeme_of}
use Rattle.og_parse.proofs.lexemes.next_piece.Given as goal

abbrev pub invariant-tokens : goal.invariant-tokens
invariant-tokens l =
    (l.piece.items ++ piece_of (map (lexeme_of l.script) (drop l.token-index l.tokens)) ≡ piece_of (map (lexeme_of l.script) l.fn.tokens))
    × (length l.piece.items ≡ l.token-index)
