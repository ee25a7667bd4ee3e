use Rattle.std.proofs.Common.{◌≡◌, ◌≤◌, drop}
use Rattle.og_parse.specs.Depth.{is_nested, max_depth}
use Rattle.og_parse.proofs.depth.is_nested.Given as goal

abbrev pub invariant-each : goal.invariant-each
invariant-each l = (is_nested l.opened (drop l.lexeme-index l.lexemes) ≡ is_nested 0 l.fn.lexemes) × (l.opened ≤ max_depth)
