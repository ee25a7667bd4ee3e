use Rattle.std.proofs.Common.{rules, sym, subst}
use Rattle.og_value.specs.Words.{IsLowerWord}
use Rattle.og_value.proofs.WordLemmas.{word_utf8, folded-lower}
use Rattle.og_value.proofs.name.Name.of.Goals as goal

pub invariant_of-result : goal.invariant_of-result
invariant_of-result c = subst IsLowerWord (search rules) (folded-lower c.args.bytes.now (sym c.if-not-is_word.ensures))

pub returns-in_default-clause-not_a_name : goal.returns-in_default-clause-not_a_name
returns-in_default-clause-not_a_name c = λ _. absurd (c.in_default.ensures.cases.0 (word_utf8 c.args.bytes.now (sym c.if-not-is_word.ensures)))
