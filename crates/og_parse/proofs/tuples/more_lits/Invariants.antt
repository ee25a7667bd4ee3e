use Rattle.std.proofs.Common.{◌≡◌}
use Rattle.og_syntax.specs.declared.lexeme.Sort.TheVariants as k
use Rattle.og_syntax.specs.Lexemes.{is, sort_at}
use Rattle.og_syntax.specs.Reading.{by, past, more, more_if_from, with_front}
use Rattle.og_syntax.specs.Reader.{lit}
use Rattle.og_parse.proofs.tuples.more_lits.Given as goal

abbrev pub invariant-more : goal.invariant-more
invariant-more l = with_front l.parts.items (more_if_from (λ ts. is k.Comma (sort_at ts)) (past k.Comma (by l.reading lit)) l.turns l.rest) ≡ with_front l.fn.parts.items (more (is k.Comma) (past k.Comma (by l.reading lit)) l.lexemes)

abbrev pub decreases-more : goal.decreases-more
decreases-more l = l.turns
