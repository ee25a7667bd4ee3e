use Rattle.std.proofs.Common.{not}
use Rattle.std.proofs.lemmas.Result.{IfOk-weaker}
use Rattle.og_base.specs.Set.{IsExactOrder}
use Rattle.og_rel.specs.Relations.{passing}
use Rattle.og_ops.proofs.EachLemmas.{passing_at}
use Rattle.og_ops.proofs.sift.RestrictUnaryOp.apply_passing.Goals as goal

pub returns-clause-law : goal.returns-clause-law
returns-clause-law g c =
    let o : IsExactOrder g.R.Fixed.Ord.cmp = record { total = g.met.R.Fixed.Ord.total; exact = g.met.R.Instant.exact } in
    IfOk-weaker c.each_passing.result _ _ (λ r h d day. passing_at o g.R.Instant.meaning (λ x. not (g.C.DayCond.holds c.args.self.now.cond d x)) (passing (g.T.RowTest.passes c.args.test.now) c.args.rel.now) r d (h d day)) c.each_passing.ensures.law
