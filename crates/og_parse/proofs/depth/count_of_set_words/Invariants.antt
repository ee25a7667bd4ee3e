use Rattle.std.proofs.Common.{◌≡◌, ◌≤◌, ◌+◌, drop}
use Rattle.og_parse.specs.Depth.{count_of, is_set_word}
use Rattle.og_parse.proofs.depth.count_of_set_words.Given as goal

abbrev pub invariant-each : goal.invariant-each
invariant-each l = (l.count + count_of is_set_word (drop l.lexeme-index l.lexemes) ≡ count_of is_set_word l.fn.lexemes) × (l.count ≤ l.lexeme-index)
