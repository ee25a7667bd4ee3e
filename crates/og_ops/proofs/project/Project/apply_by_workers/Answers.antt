use Rattle.std.proofs.lemmas.Result.{IfOk-weaker}
use Rattle.og_base.specs.Set.{IsExactOrder}
use Rattle.og_ops.proofs.EachLemmas.{images_at}
use Rattle.og_ops.proofs.project.Project.apply_by_workers.Goals as goal

pub returns-clause-law : goal.returns-clause-law
returns-clause-law g c =
    let ord = g.met.R.Fixed.Ord g.world.𝓛 g.world.𝓜 g.world.𝓡 ((λ s x. x), (λ x. x), (λ x. x), λ x. x) in
    let row = g.met.R.Instant g.world.𝓛 g.world.𝓜 g.world.𝓡 ((λ s x. x), (λ x. x), (λ x. x), λ x. x) in
    let o : IsExactOrder g.R.Fixed.Ord.cmp = record { total = ord.total; exact = row.exact } in
    IfOk-weaker c.each_row_by_workers.result _ _ (λ r h d day. images_at o g.R.Instant.meaning (g.M.RowMap.image c.args.self.now.items d) c.args.rel.now r d (h d day)) c.each_row_by_workers.ensures.law
