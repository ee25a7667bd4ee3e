use Rattle.std.proofs.Common.{false, [], ◌∷◌}
use Rattle.og_base.specs.Boundaries.{inside_from}
use Rattle.og_base.proofs.SideLemmas.{total}
use Rattle.og_base.proofs.SweepLemmas.{IsPass}
use Rattle.og_base.proofs.SetOpLemmas.{of_four}
use Rattle.og_base.proofs.rt_set.sweep.meet_four.Given as goal

abbrev pub invariant-pass : goal.invariant-pass
invariant-pass l =
    IsPass of_four
    (record { says = inside_from false l.fn.first; inside = l.a.inside; rest = l.a.rest.now }
    ∷ record { says = inside_from false l.fn.second; inside = l.b.inside; rest = l.b.rest.now }
    ∷ record { says = inside_from false l.fn.third; inside = l.c.inside; rest = l.c.rest.now }
    ∷ record { says = inside_from false l.fn.fourth; inside = l.d.inside; rest = l.d.rest.now } ∷ [])
    l.inside l.boundaries

abbrev pub decreases-pass : goal.decreases-pass
decreases-pass l = total (l.a.rest.now ∷ l.b.rest.now ∷ l.c.rest.now ∷ l.d.rest.now ∷ [])
