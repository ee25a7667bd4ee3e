use Rattle.std.proofs.Common.{◌≡◌, ◌+◌, ◌*◌}
use Rattle.og_syntax.specs.Lexemes.{is, sort_at}
use Rattle.og_syntax.specs.declared.lexeme.Sort.TheVariants as k
use Rattle.og_syntax.specs.Reading.{by, past, more, more_if_from, with_front}
use Rattle.og_syntax.specs.Reader.{neg_in, conj_of}
use Rattle.og_syntax.proofs.conditions.+conditions.Given as goal

abbrev pub decreases-negation_in : goal.decreases-negation_in
decreases-negation_in l = 9 * l.depth

abbrev pub decreases-further_negation_in : goal.decreases-further_negation_in
decreases-further_negation_in l = 9 * l.depth + 1

abbrev pub decreases-more_negations_in : goal.decreases-more_negations_in
decreases-more_negations_in l = 9 * l.depth + 2

abbrev pub decreases-conjunction_in : goal.decreases-conjunction_in
decreases-conjunction_in l = 9 * l.depth + 3

abbrev pub decreases-further_conjunction_in : goal.decreases-further_conjunction_in
decreases-further_conjunction_in l = 9 * l.depth + 4

abbrev pub decreases-more_conjunctions_in : goal.decreases-more_conjunctions_in
decreases-more_conjunctions_in l = 9 * l.depth + 5

abbrev pub decreases-condition_in : goal.decreases-condition_in
decreases-condition_in l = 9 * l.depth + 6

abbrev pub decreases-enclosed_in : goal.decreases-enclosed_in
decreases-enclosed_in l = 9 * l.depth + 7

abbrev pub decreases-atom_in : goal.decreases-atom_in
decreases-atom_in l = 9 * l.depth + 8

abbrev pub invariant-more_negations_in-more : goal.invariant-more_negations_in-more
invariant-more_negations_in-more l =
    with_front l.parts (more_if_from (λ ts. is k.And (sort_at ts)) (past k.And (by l.reading neg_in l.depth)) l.turns l.rest)
    ≡ with_front l.fn.parts (more (is k.And) (past k.And (by l.reading neg_in l.depth)) l.lexemes)

abbrev pub decreases-more_negations_in-more : goal.decreases-more_negations_in-more
decreases-more_negations_in-more l = l.turns

abbrev pub invariant-more_conjunctions_in-more : goal.invariant-more_conjunctions_in-more
invariant-more_conjunctions_in-more l =
    with_front l.parts (more_if_from (λ ts. is k.Or (sort_at ts)) (past k.Or (conj_of (by l.reading neg_in l.depth))) l.turns l.rest)
    ≡ with_front l.fn.parts (more (is k.Or) (past k.Or (conj_of (by l.reading neg_in l.depth))) l.lexemes)

abbrev pub decreases-more_conjunctions_in-more : goal.decreases-more_conjunctions_in-more
decreases-more_conjunctions_in-more l = l.turns
