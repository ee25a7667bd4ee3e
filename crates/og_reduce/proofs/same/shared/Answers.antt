use Rattle.std.proofs.Common.{ap, ◌∙◌}
use Rattle.og_reduce.specs.Sieves.{passes}
use Rattle.og_reduce.proofs.same.shared.Goals as goal

pub returns : goal.returns
returns c d row holds passing = ap (λ tests. passes tests row) c.new.ensures ∙ c.others.invariant d row holds passing
