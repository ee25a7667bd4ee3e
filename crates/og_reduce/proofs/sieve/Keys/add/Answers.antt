use Rattle.std.proofs.Common.{ap, ◌∙◌}
use Rattle.og_reduce.specs.Sieves.{is_among}
use Rattle.og_reduce.proofs.SieveLemmas.{number_keeps, text_keeps}
use Rattle.og_reduce.proofs.sieve.Keys.add.Goals as goal

pub returns-in_ok-insert-in-Int-clause-kept : goal.returns-in_ok-insert-in-Int-clause-kept
returns-in_ok-insert-in-Int-clause-kept c x is =
    ap (λ numbers. is_among (numbers, c.self.inside.texts.keys) x) c.in_ok-insert-in-Int.ensures.keys
    ∙ number_keeps c.self.inside.numbers c.self.inside.texts.keys _ x (ap (λ keys. is_among keys x) c.self.view_is ∙ is)

pub returns-in_ok-insert-in-Text-clause-kept : goal.returns-in_ok-insert-in-Text-clause-kept
returns-in_ok-insert-in-Text-clause-kept c x is =
    ap (λ texts. is_among (c.self.inside.numbers, texts) x) c.in_ok-insert-in-Text.ensures.keys
    ∙ text_keeps c.self.inside.numbers c.self.inside.texts.keys _ x (ap (λ keys. is_among keys x) c.self.view_is ∙ is)
