use Rattle.std.proofs.Common.{◌++◌, ap, ap₂, ◌∙◌}
use Rattle.og_base.specs.Set.{IsExactOrder}
use Rattle.og_rel.specs.Relations.{relation_at}
use Rattle.og_rel.proofs.PresentLemmas.{relation_at-append}
use Rattle.og_ops.proofs.sets.UnionBinaryOp.apply.Goals as goal

pub returns-clause-law : goal.returns-clause-law
returns-clause-law g c d r =
    let o : IsExactOrder g.R.Fixed.Ord.cmp = record { total = g.met.R.Fixed.Ord.total; exact = g.met.R.Instant.exact } in
    ap (λ rel. relation_at g.R.Fixed.Ord.cmp g.R.Instant.meaning rel d) (c.in_ok-append.ensures.appended ∙ ap₂ (λ a b. a ++ b) c.in_ok-both.ensures c.in_ok-copy.ensures)
    ∙ relation_at-append o g.R.Instant.meaning c.args.left.now c.args.right.now d
