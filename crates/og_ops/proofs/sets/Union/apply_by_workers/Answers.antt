use Rattle.std.proofs.Common.{◌++◌, ap, ap₂, ◌∙◌}
use Rattle.og_base.specs.Set.{IsExactOrder, set_of}
use Rattle.og_rel.specs.Relations.{relation_at}
use Rattle.og_rel.proofs.PresentLemmas.{relation_at-append}
use Rattle.og_ops.proofs.sets.Union.apply_by_workers.Goals as goal

pub returns-clause-law : goal.returns-clause-law
returns-clause-law g c d r =
    let ord = g.met.R.Fixed.Ord g.world.𝓛 g.world.𝓜 g.world.𝓡 ((λ s x. x), (λ x. x), (λ x. x), λ x. x) in
    let row = g.met.R.Instant g.world.𝓛 g.world.𝓜 g.world.𝓡 ((λ s x. x), (λ x. x), (λ x. x), λ x. x) in
    let o : IsExactOrder g.R.Fixed.Ord.cmp = record { total = ord.total; exact = row.exact } in
    let cmp = g.R.Fixed.Ord.cmp in
    ap (λ rel. relation_at cmp g.R.Instant.meaning rel d) c.in_ok-append.ensures.appended
    ∙ relation_at-append o g.R.Instant.meaning c.in_ok-both.both c.in_ok-each_row_by_workers.field-0 d
    ∙ ap₂ (λ a b. set_of cmp (set_of cmp a ++ set_of cmp b)) (c.in_ok-both.ensures.law d r) (c.in_ok-each_row_by_workers.ensures.law d r)
