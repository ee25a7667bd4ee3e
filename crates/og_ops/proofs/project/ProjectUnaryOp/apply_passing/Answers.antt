use Rattle.std.proofs.lemmas.Result.{IfOk-weaker}
use Rattle.og_base.specs.Set.{IsExactOrder}
use Rattle.og_rel.specs.Relations.{passing}
use Rattle.og_ops.proofs.EachLemmas.{images_at}
use Rattle.og_ops.proofs.project.ProjectUnaryOp.apply_passing.Goals as goal

pub returns-clause-law : goal.returns-clause-law
returns-clause-law g c =
    let o : IsExactOrder g.R.Fixed.Ord.cmp = record { total = g.met.R.Fixed.Ord.total; exact = g.met.R.Instant.exact } in
    IfOk-weaker c.each_passing.result _ _ (λ r h d day. images_at o g.R.Instant.meaning (g.M.RowMap.image c.args.self.now.items d) (passing (g.T.RowTest.passes c.args.test.now) c.args.rel.now) r d (h d day)) c.each_passing.ensures.law
