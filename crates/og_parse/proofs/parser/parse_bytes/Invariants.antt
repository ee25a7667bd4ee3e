use Rattle.std.proofs.Common.{◌≤◌, ◌-◌, length}
use Rattle.og_parse.proofs.Parts.{IsBegun}
use Rattle.og_parse.proofs.parser.parse_bytes.Given as goal

abbrev pub invariant-parts : goal.invariant-parts
invariant-parts l = record {
  begun : IsBegun l.script l.at l.stmts;
  within : l.at ≤ length l.script;
}

abbrev pub decreases-parts : goal.decreases-parts
decreases-parts l = length l.script - l.at
