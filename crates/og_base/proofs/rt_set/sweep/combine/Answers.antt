use Rattle.std.proofs.Common.{refl, ◌∙◌, [], ◌∷◌}
use Rattle.og_base.specs.SetOps.{op_holds}
use Rattle.og_base.proofs.SideLemmas.{fewer_left}
use Rattle.og_base.proofs.SweepLemmas.{IsPass-start, IsPass-next, IsPass-end}
use Rattle.og_base.proofs.SetOpLemmas.{of_two, op_holds-neither}
use Rattle.og_base.proofs.rt_set.sweep.combine.Goals as goal

pub pass-init : goal.pass-init
pass-init c =
    rw (c.of-left.ensures.rest, c.of-left.ensures.inside, c.of-right.ensures.rest, c.of-right.ensures.inside, c.none-boundaries.ensures)
    (IsPass-start (of_two (op_holds c.args.op)) (c.args.left.now ∷ c.args.right.now ∷ []) (op_holds-neither c.args.op) (c.requires.left_rises, (c.requires.right_rises, tt)))

pub pass-preserved : goal.pass-preserved
pass-preserved c =
    let now = IsPass-next c.pass.invariant c.in-Some.day c.in-Some.ensures.next c.holds-now.result (c.holds-now.ensures ∙ rw (c.pass-left.ensures.inside, c.pass-right.ensures.inside) refl) in
    rw (c.pass-left.ensures.rest, c.pass-left.ensures.inside, c.pass-right.ensures.rest, c.pass-right.ensures.inside, c.in_ok-turn.ensures) now

pub pass-smaller : goal.pass-smaller
pass-smaller c =
    rw (c.pass-left.ensures.rest, c.pass-right.ensures.rest) (fewer_left c.in-Some.day (c.pass.left.rest.now ∷ c.pass.right.rest.now ∷ []) c.in-Some.ensures.next.reached)

pub returns-clause-rises : goal.returns-clause-rises
returns-clause-rises c = rw c.give_back.ensures c.pass.invariant.swept.rises

pub returns-clause-holds : goal.returns-clause-holds
returns-clause-holds c d = rw c.give_back.ensures (IsPass-end c.pass.invariant c.in_default.ensures.ended d)
