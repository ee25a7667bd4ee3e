use Rattle.std.proofs.Common.{◌≡◌}
use Rattle.og_syntax.specs.Reading.{by, more_if, more_if_from, with_front}
use Rattle.og_syntax.proofs.parts.more_parts.Given as goal

abbrev pub invariant-more : goal.invariant-more
invariant-more g l =
    with_front l.parts (more_if_from (g.P.Parts.begins l.kind) (by l.reading (g.P.Parts.part l.kind)) l.turns l.rest)
    ≡ with_front l.fn.parts (more_if (g.P.Parts.begins l.kind) (by l.reading (g.P.Parts.part l.kind)) l.lexemes)

abbrev pub decreases-more : goal.decreases-more
decreases-more g l = l.turns
