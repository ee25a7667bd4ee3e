use Rattle.std.proofs.lemmas.List.Elements.{All-map}
use Rattle.og_rel.specs.Relations.{HasDays}
use Rattle.og_rel.proofs.relation.Rel.some_days.Goals as goal

pub returns : goal.returns
returns g c = rw (← c.self.view_is) (All-map (λ p. HasDays p.1) (λ p. (p.row, p.days)) c.self.inside.pairs.items c.self.invariant)
