use Rattle.std.proofs.Common.{◌+◌, ◌≤◌, length}
use Rattle.og_parse.specs.Script.{pieces}
use Rattle.og_parse.specs.Tokens.{lexemes_of}
use Rattle.og_parse.proofs.Scripts.{Leads}
use Rattle.og_parse.proofs.parser.statements.Given as goal

abbrev pub invariant-pieces : goal.invariant-pieces
invariant-pieces l =
    Leads l.script l.first (pieces (lexemes_of l.script l.fn.tokens)) l.stmts l.number (pieces (lexemes_of l.script l.rest))
    × (l.number + length l.rest ≤ l.first + length l.fn.tokens)

abbrev pub decreases-pieces : goal.decreases-pieces
decreases-pieces l = length l.rest
