use Rattle.std.proofs.Common.{◌≡◌, Less, rules, ap₂, sym, ◌∙◌}
use Rattle.og_rel.proofs.RisingLemmas.{rises_after}
use Rattle.og_rel.proofs.ordered.comes_before.Goals as goal

pub returns : goal.returns
returns g c before first second =
    let last = c.index-first-first.result in
    let next = c.index-second-0.result in
    let less : c.cmp.result ≡ Less = search rules in
    rises_after g.met.F.Ord.total c.args.first.now c.args.second.now last next first second
    (ap₂ g.F.Ord.cmp (sym c.index-first-first.is) (sym c.index-second-0.is) ∙ sym c.cmp.ensures ∙ less)
