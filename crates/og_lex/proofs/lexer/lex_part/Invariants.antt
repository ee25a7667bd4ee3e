use Rattle.std.proofs.Common.{◌≡◌, ◌≤◌, drop, length}
use Rattle.og_lex.specs.Grammar.{Reads}
use Rattle.og_lex.proofs.lexer.lex_part.Given as goal

-- what was read so far, and where
abbrev pub invariant-pieces : goal.invariant-pieces
invariant-pieces l = record {
  read : Reads l.from (drop l.from l.script) l.tokens.items l.at l.rest;
  rest : l.rest ≡ drop l.at l.script;
  within : l.at ≤ length l.script;
  forward : l.from ≤ l.at;
}

abbrev pub decreases-pieces : goal.decreases-pieces
decreases-pieces l = length l.rest
