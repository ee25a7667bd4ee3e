use Rattle.std.proofs.Common.{◌≤◌, ◌-◌, List, drop, length}
use Rattle.og_lex.specs.Grammar.{Reads}
use Rattle.og_lex.specs.declared.token.Token.{Token}
use Rattle.og_parse.proofs.parser.refused_as.Given as goal

-- what was read from the place on
abbrev pub invariant-parts : goal.invariant-parts
invariant-parts l = record {
  read : (tokens : List Token) × Reads l.from (drop l.from l.script) tokens l.at (drop l.at l.script);
  within : l.at ≤ length l.script;
}

abbrev pub decreases-parts : goal.decreases-parts
decreases-parts l = length l.script - l.at
