use Rattle.std.proofs.Common.{refl, sym, ap, ◌∙◌, true≢false, [], ◌∷◌, false}
use Rattle.og_base.specs.SetOps.{op_holds}
use Rattle.og_base.specs.declared.rt_set.sweep.Op.TheVariants.{Meet}
use Rattle.og_base.proofs.SideLemmas.{fewer_left}
use Rattle.og_base.proofs.SweepLemmas.{IsPass-start, IsPass-next, IsPass-at, IsPass-end}
use Rattle.og_base.proofs.SetOpLemmas.{of_two, apart, common}
use Rattle.og_base.proofs.rt_set.sweep.are_disjoint.Goals as goal

pub pass-init : goal.pass-init
pass-init c =
    rw (c.of-left.ensures.rest, c.of-left.ensures.inside, c.of-right.ensures.rest, c.of-right.ensures.inside)
    (IsPass-start (of_two (op_holds Meet)) (c.args.left.now ∷ c.args.right.now ∷ []) refl (c.requires.left_rises, (c.requires.right_rises, tt)))

pub pass-preserved : goal.pass-preserved
pass-preserved c =
    rw (c.pass-left.ensures.rest, c.pass-left.ensures.inside, c.pass-right.ensures.rest, c.pass-right.ensures.inside)
    (IsPass-next c.pass.invariant c.in-Some.day c.in-Some.ensures.next false
    (rw (c.pass-left.ensures.inside, c.pass-right.ensures.inside) at (sym c.if-holds.false ∙ c.holds.ensures)))

pub pass-smaller : goal.pass-smaller
pass-smaller c =
    rw (c.pass-left.ensures.rest, c.pass-right.ensures.rest) (fewer_left c.in-Some.day (c.pass.left.rest.now ∷ c.pass.right.rest.now ∷ []) c.in-Some.ensures.next.reached)

pub returns-then-holds : goal.returns-then-holds
returns-then-holds c =
    let at = IsPass-at c.pass.invariant c.in-Some.day c.in-Some.ensures.next in
    let met = rw (c.pass-left.ensures.inside, c.pass-right.ensures.inside) at (sym c.holds.ensures ∙ c.if-holds.true) in
    let both = ap (of_two (op_holds Meet)) at.0 ∙ met in (
      λ h. absurd (true≢false (sym h)),
      λ none. absurd (true≢false (sym (common c.args.left.now c.args.right.now c.in-Some.day c.requires.left_rises c.requires.right_rises at.1 both) ∙ none c.in-Some.day)),
    )

pub returns : goal.returns
returns c = (
  λ _. apart c.args.left.now c.args.right.now c.requires.left_rises c.requires.right_rises (IsPass-end c.pass.invariant c.in_default.ensures.ended),
  λ _. refl,
)
