use Rattle.std.proofs.Common.{ap, sym, ◌∙◌}
use Rattle.og_sql_outside.specs.Outside.{outside_pair, outside_rel}
use Rattle.og_sql_outside.proofs.FirstLemmas.{first_in-map}
use Rattle.og_sql_outside.proofs.values.rel_outside.Goals as goal

pub returns : goal.returns
returns c = c.pairs_outside.ensures ∙ sym (first_in-map outside_pair (λ p. (p.row, p.days)) c.pairs.result.now) ∙ ap outside_rel c.pairs.ensures
