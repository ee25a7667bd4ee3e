use Rattle.std.proofs.Common.{inl, inr, rules, arith}
use Rattle.std.proofs.lemmas.List.Sorted.{IsPermutation-trans}
use Rattle.og_join.proofs.SweepLemmas.{overlaps-done, all_found, whole_cost, stopped_cost}
use Rattle.og_join.proofs.sweep.candidates.Goals as goal
use Rattle.og_join.proofs.sweep.candidates.Goals.{then-sweep-test+else-j-right, else-sweep-test}

pub sweep-preserved-then-branch : goal.sweep-preserved-then-branch
sweep-preserved-then-branch g c = record {
  left_place = omega (arith, c.sweep-test.true);
  right_place = c.sweep.invariant.right_place;
  exact = IsPermutation-trans _ _ _ (search rules) c.sweep.invariant.exact;
  cost = omega (arith, c.sweep.invariant.cost, c.in_ok-pair_first.ensures.cost);
  later = omega (arith, c.sweep.invariant.later, c.in_ok-pair_first.ensures.later);
}

pub sweep-preserved : goal.sweep-preserved
sweep-preserved g c = record {
  left_place = c.sweep.invariant.left_place;
  right_place = omega (arith, c.if-j-right.true);
  exact = IsPermutation-trans _ _ _ (search rules) c.sweep.invariant.exact;
  cost = omega (arith, c.sweep.invariant.cost, c.in_ok-pair_first.ensures.cost);
  later = omega (arith, c.sweep.invariant.later, c.in_ok-pair_first.ensures.later);
}

pub returns-clause-exact : goal.returns-clause-exact
returns-clause-exact g c =
    all_found c.sweep.found.items _ _ (overlaps-done g.E.Envelope.lo g.E.Envelope.hi c.sweep.i c.sweep.j c.args.left.now c.args.right.now
    (elim c.sweep-test.branch [ then-sweep-test+else-j-right w ↦ inr (search arith) | else-sweep-test w ↦ inl (search arith) ])) c.sweep.invariant.exact

pub returns-clause-bound : goal.returns-clause-bound
returns-clause-bound g c =
    whole_cost c.sweep.found.items _ _ c.sweep.i c.sweep.j _ _ _ _ c.sweep.invariant.exact c.sweep.invariant.left_place c.sweep.invariant.right_place c.sweep.invariant.cost

pub returns-in_err-pair_first-clause-bound : goal.returns-in_err-pair_first-clause-bound
returns-in_err-pair_first-clause-bound g c =
    stopped_cost c.sweep.found.items _ _ c.sweep.i c.sweep.j _ _ _ c.sweep.steps _ c.sweep.invariant.exact c.sweep-test.true c.if-j-right.true c.sweep.invariant.cost c.in_err-pair_first.ensures.refused
