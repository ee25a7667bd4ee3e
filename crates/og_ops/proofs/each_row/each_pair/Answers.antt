use Rattle.std.proofs.Common.{length, sym, ap, ◌∙◌, arith}
use Rattle.og_rel.specs.Relations.{present}
use Rattle.og_ops.proofs.EachLemmas.{nothing_becomes, become_more, most_more}
use Rattle.og_ops.proofs.each_row.each_pair.Goals as goal

pub pairs-init : goal.pairs-init
pairs-init g c = record {
  rows = λ d r.
      ap (λ rows. present g.R.Instant.meaning rows d) c.new-made.ensures
      ∙ sym (nothing_becomes (g.O.EachRow.becomes c.args.op.now d) (λ xs ys. g.met.O.EachRow.along c.args.op.now d xs ys));
  size = omega (arith, ap length c.new-made.ensures);
}

pub pairs-preserved : goal.pairs-preserved
pairs-preserved g c = record {
  rows = λ d r.
      become_more (g.O.EachRow.becomes c.args.op.now d) (λ xs ys. g.met.O.EachRow.along c.args.op.now d xs ys) g.R.Instant.meaning c.args.pairs.now c.pairs.pair-index _ c.pairs.made c.put.new.made d
      c.pairs-test.true c.pair-item.is (c.pairs.invariant.rows d r) (c.in_ok-put.ensures.rows d r);
  size = most_more _ _ _ _ c.pairs.invariant.size c.in_ok-put.ensures.size;
}
