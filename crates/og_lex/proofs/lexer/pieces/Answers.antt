use Rattle.std.proofs.Common.{arith}
use Rattle.og_lex.specs.Front.{lex_from, lexed}
use Rattle.og_lex.proofs.Lexing.{with_front-nil}
use Rattle.og_lex.proofs.lexer.pieces.Goals as goal

pub pieces-init : goal.pieces-init
unfolding lexed
pieces-init c = (rw c.new-tokens.ensures.items (with_front-nil (lex_from 0 0 c.args.script.now)), omega arith)
