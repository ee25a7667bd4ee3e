use Rattle.std.proofs.Common.{sym, ap, ◌∙◌}
use Rattle.og_value.specs.Heights.{spelt}
use Rattle.og_value.proofs.SpellingLemmas.{spelt-take}
use Rattle.og_value.proofs.short.Short.spelt.Goals as goal

pub returns-clause-number : goal.returns-clause-number
returns-clause-number c = c.spelt.ensures.number ∙ sym (spelt-take 14 0 c.self.inside.len c.self.inside.bytes c.self.invariant.2) ∙ ap (spelt 14 0) c.self.view_is
