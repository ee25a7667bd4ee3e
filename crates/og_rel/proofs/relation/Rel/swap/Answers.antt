use Rattle.std.proofs.Common.{◌<◌, List, ap, length, map, subst, swap, sym, ◌∙◌, arith}
use Rattle.std.specs.List.{All}
use Rattle.std.proofs.lemmas.List.{length-map}
use Rattle.og_base.specs.Ranges.{Range}
use Rattle.og_rel.specs.Relations.{HasDays}
use Rattle.og_rel.specs.declared.pair.Pair.{Pair}
use Rattle.og_rel.proofs.PermutationLemmas.{All-swap, map-swap}
use Rattle.og_rel.proofs.relation.Rel.swap.Goals as goal

pub returns : goal.returns
returns g c =
    let pairs = c.self.inside.pairs.items in
    let pair : Pair g.row.R.Denot → g.row.R.Denot × List Range = λ p. (p.row, p.days) in
    let i : c.args.i < length pairs = omega (arith, c.requires.first, ap length c.self.view_is, length-map pairs pair) in
    let j : c.args.j < length pairs = omega (arith, c.requires.second, ap length c.self.view_is, length-map pairs pair) in
    ap (map pair) c.swap.ensures.items ∙ map-swap pair pairs c.args.i c.args.j i j ∙ ap (λ rows. swap rows c.args.i c.args.j) c.self.view_is

pub invariant_of-self : goal.invariant_of-self
invariant_of-self g c =
    let pairs = c.self.inside.pairs.items in
    let pair : Pair g.row.R.Denot → g.row.R.Denot × List Range = λ p. (p.row, p.days) in
    let i : c.args.i < length pairs = omega (arith, c.requires.first, ap length c.self.view_is, length-map pairs pair) in
    let j : c.args.j < length pairs = omega (arith, c.requires.second, ap length c.self.view_is, length-map pairs pair) in
    subst (All (λ p. HasDays p.days)) (sym c.swap.ensures.items) (All-swap (λ p. HasDays p.days) pairs c.args.i c.args.j i j c.self.invariant)
