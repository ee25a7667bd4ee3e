use Rattle.std.proofs.Common.{ap, map, ◌∙◌}
use Rattle.og_rel.proofs.PairLemmas.{stored-pairs}
use Rattle.og_rel.proofs.relation.Rel.of.Goals as goal

pub returns : goal.returns
returns g c = ap (map (λ p. (p.row, p.days))) c.pairs_with_days.ensures.kept ∙ stored-pairs c.args.pairs.items
