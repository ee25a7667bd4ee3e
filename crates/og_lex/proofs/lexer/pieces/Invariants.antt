use Rattle.std.proofs.Common.{◌≡◌, ◌+◌, length}
use Rattle.og_lex.specs.Front.{with_front, lex_from, lexed}
use Rattle.og_lex.proofs.lexer.pieces.Given as goal

abbrev pub invariant-pieces : goal.invariant-pieces
invariant-pieces l = (with_front l.tokens.items (lex_from l.at 0 l.rest) ≡ lexed l.script) × (l.at + length l.rest ≡ length l.script)

abbrev pub decreases-pieces : goal.decreases-pieces
decreases-pieces l = length l.rest
