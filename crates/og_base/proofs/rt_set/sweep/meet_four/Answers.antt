use Rattle.std.proofs.Common.{refl, ◌∙◌, [], ◌∷◌}
use Rattle.og_base.proofs.SideLemmas.{fewer_left}
use Rattle.og_base.proofs.SweepLemmas.{IsPass-start, IsPass-next, IsPass-end}
use Rattle.og_base.proofs.SetOpLemmas.{of_four}
use Rattle.og_base.proofs.rt_set.sweep.meet_four.Goals as goal

pub pass-init : goal.pass-init
pass-init c =
    rw (c.of-a.ensures.rest, c.of-a.ensures.inside, c.of-b.ensures.rest, c.of-b.ensures.inside, c.of-c.ensures.rest, c.of-c.ensures.inside, c.of-d.ensures.rest, c.of-d.ensures.inside, c.none-boundaries.ensures)
    (IsPass-start of_four (c.args.first.now ∷ c.args.second.now ∷ c.args.third.now ∷ c.args.fourth.now ∷ []) refl
    (c.requires.first_rises, (c.requires.second_rises, (c.requires.third_rises, (c.requires.fourth_rises, tt)))))

pub pass-preserved : goal.pass-preserved
pass-preserved c =
    let now = IsPass-next c.pass.invariant c.in-Some.day c.in-Some.ensures.next c.all_four-now.result
    (c.all_four-now.ensures ∙ rw (c.pass-a.ensures.inside, c.pass-b.ensures.inside, c.pass-c.ensures.inside, c.pass-d.ensures.inside) refl) in
    rw (c.pass-a.ensures.rest, c.pass-a.ensures.inside, c.pass-b.ensures.rest, c.pass-b.ensures.inside, c.pass-c.ensures.rest, c.pass-c.ensures.inside, c.pass-d.ensures.rest, c.pass-d.ensures.inside, c.in_ok-turn.ensures) now

pub pass-smaller : goal.pass-smaller
pass-smaller c =
    rw (c.pass-a.ensures.rest, c.pass-b.ensures.rest, c.pass-c.ensures.rest, c.pass-d.ensures.rest)
    (fewer_left c.in-Some.day (c.pass.a.rest.now ∷ c.pass.b.rest.now ∷ c.pass.c.rest.now ∷ c.pass.d.rest.now ∷ []) c.in-Some.ensures.next.reached)

pub returns-clause-rises : goal.returns-clause-rises
returns-clause-rises c = rw c.give_back.ensures c.pass.invariant.swept.rises

pub returns-clause-holds : goal.returns-clause-holds
returns-clause-holds c d = rw c.give_back.ensures (IsPass-end c.pass.invariant c.in_default.ensures.ended d)
