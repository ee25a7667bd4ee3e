use Rattle.std.proofs.Common.{◌-◌, arith}
use Rattle.og_query.proofs.WalkLemmas.{back_here, goes_on, ends_here, next_number, at_most_next}
use Rattle.og_query.proofs.walk.advance.Goals as goal

pub returns-then-next-sizes-clause-next : goal.returns-then-next-sizes-clause-next
returns-then-next-sizes-clause-next c =
    goes_on c.args.sizes.now c.args.places.now.items c.back.places.items _ c.back.i (omega (arith, c.back-test.true)) c.back.invariant.within c.requires c.back.invariant.wrapped c.back.invariant.ended
    c.index.result.now c.saturating_add-next.result c.index.ensures (next_number _ _ _ c.saturating_add-next.ensures c.if-next-sizes.true (omega (arith, c.type_inv.sizes (c.back.i - 1)))) c.if-next-sizes.true

pub back-preserved : goal.back-preserved
back-preserved c = record {
  within = omega (arith, c.back.invariant.within);
  wrapped = back_here c.args.sizes.now c.args.places.now.items c.back.places.items _ c.back.i (omega (arith, c.back-test.true)) c.back.invariant.within c.requires c.back.invariant.wrapped c.back.invariant.ended;
  ended =
      ends_here c.args.sizes.now c.args.places.now.items c.back.places.items _ c.back.i (omega (arith, c.back-test.true)) c.back.invariant.within c.requires c.back.invariant.wrapped c.back.invariant.ended
      c.index.result.now c.index.ensures (at_most_next _ _ _ c.saturating_add-next.ensures c.if-next-sizes.false);
}
