use Rattle.std.proofs.Common.{◌∙◌, List, ap, map, subst, sym}
use Rattle.std.specs.List.{All}
use Rattle.og_base.specs.Ranges.{Range}
use Rattle.og_rel.specs.Places.{others_at}
use Rattle.og_rel.specs.Relations.{HasDays}
use Rattle.og_rel.specs.declared.pair.Pair.{Pair}
use Rattle.og_rel.proofs.PlaceLemmas.{All-others, map-others}
use Rattle.og_rel.proofs.relation.Rel.remove_at.Goals as goal

pub returns : goal.returns
returns g c =
    let pair : Pair g.row.R.Denot → g.row.R.Denot × List Range = λ p. (p.row, p.days) in
    ap (map pair) c.remove_at.ensures ∙ map-others pair c.args.at.now c.self.inside.pairs.items ∙ ap (others_at c.args.at.now) c.self.view_is

pub invariant_of-self : goal.invariant_of-self
invariant_of-self g c = subst (All (λ p. HasDays p.days)) (sym c.remove_at.ensures) (All-others (λ p. HasDays p.days) c.args.at.now c.self.inside.pairs.items c.self.invariant)
