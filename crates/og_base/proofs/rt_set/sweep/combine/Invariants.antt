use Rattle.std.proofs.Common.{false, [], ◌∷◌}
use Rattle.og_base.specs.Boundaries.{inside_from}
use Rattle.og_base.specs.SetOps.{op_holds}
use Rattle.og_base.proofs.SideLemmas.{total}
use Rattle.og_base.proofs.SweepLemmas.{IsPass}
use Rattle.og_base.proofs.SetOpLemmas.{of_two}
use Rattle.og_base.proofs.rt_set.sweep.combine.Given as goal

abbrev pub invariant-pass : goal.invariant-pass
invariant-pass l =
    IsPass (of_two (op_holds l.op))
    (record { says = inside_from false l.fn.left; inside = l.left.inside; rest = l.left.rest.now }
    ∷ record { says = inside_from false l.fn.right; inside = l.right.inside; rest = l.right.rest.now } ∷ [])
    l.inside l.boundaries

abbrev pub decreases-pass : goal.decreases-pass
decreases-pass l = total (l.left.rest.now ∷ l.right.rest.now ∷ [])
