use Rattle.std.proofs.Common.{length, sym, ap, ◌∙◌, arith}
use Rattle.og_rel.specs.Relations.{present}
use Rattle.og_ops.proofs.EachLemmas.{nothing_becomes, passing_more, passing_size}
use Rattle.og_ops.proofs.each_row.each_passing.Goals as goal

pub pairs-init : goal.pairs-init
pairs-init g c = record {
  rows = λ d r.
      ap (λ rows. present g.R.Instant.meaning rows d) c.new-made.ensures
      ∙ sym (nothing_becomes (g.O.EachRow.becomes c.args.op.now d) (λ xs ys. g.met.O.EachRow.along c.args.op.now d xs ys));
  size = omega (arith, ap length c.new-made.ensures);
}

pub pairs-preserved : goal.pairs-preserved
pairs-preserved g c = record {
  rows = λ d r.
      passing_more (g.O.EachRow.becomes c.args.op.now d) (λ xs ys. g.met.O.EachRow.along c.args.op.now d xs ys) g.R.Instant.meaning (g.T.RowTest.passes c.args.test.now)
      c.pairs-pairs.result.now c.pairs.pair-index _ c.pairs.made c.put_passing.new.made d
      c.pairs-test.true c.pair-item.is (c.pairs.invariant.rows d r) (c.in_ok-put_passing.ensures.rows d r);
  size = passing_size (g.T.RowTest.passes c.args.test.now) c.pairs-pairs.result.now c.pairs.pair-index _ _ _ _ c.pairs-test.true c.pair-item.is c.pairs.invariant.size c.in_ok-put_passing.ensures.size;
}
