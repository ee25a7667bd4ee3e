use Rattle.std.proofs.Common.{◌∙◌, ap, map, filter, arith}
use Rattle.std.proofs.lemmas.List.{take_all}
use Rattle.std.proofs.lemmas.List.Elements.{All-filter}
use Rattle.og_rel.specs.Relations.{HasDays, passing}
use Rattle.og_rel.proofs.PairLemmas.{passing-pairs}
use Rattle.og_rel.proofs.relation.Rel.passing.Goals as goal

pub invariant_of-result : goal.invariant_of-result
invariant_of-result g c =
    let passes = g.T.RowTest.passes c.args.test.now in
    rw (c.pairs.invariant ∙ ap (filter (λ p. passes p.row)) (take_all c.pairs.pair-index _ (omega (arith, c.pairs-test.false)) ∙ c.deref-pair-items.ensures.value))
    (All-filter (λ p. passes p.row) (λ p. HasDays p.days) c.self.inside.pairs.items c.self.invariant)

pub returns : goal.returns
returns g c =
    let passes = g.T.RowTest.passes c.args.test.now in
    ap (map (λ p. (p.row, p.days)))
    (c.pairs.invariant ∙ ap (filter (λ p. passes p.row)) (take_all c.pairs.pair-index _ (omega (arith, c.pairs-test.false)) ∙ c.deref-pair-items.ensures.value))
    ∙ passing-pairs passes c.self.inside.pairs.items ∙ ap (passing passes) c.self.view_is
