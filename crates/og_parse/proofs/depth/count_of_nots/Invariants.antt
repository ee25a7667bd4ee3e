use Rattle.std.proofs.Common.{◌≡◌, ◌≤◌, ◌+◌, drop}
use Rattle.og_syntax.specs.declared.lexeme.Sort.TheVariants as k
use Rattle.og_syntax.specs.Lexemes.{is}
use Rattle.og_parse.specs.Depth.{count_of}
use Rattle.og_parse.proofs.depth.count_of_nots.Given as goal

abbrev pub invariant-each : goal.invariant-each
invariant-each l = (l.count + count_of (is k.Not) (drop l.lexeme-index l.lexemes) ≡ count_of (is k.Not) l.fn.lexemes) × (l.count ≤ l.lexeme-index)
