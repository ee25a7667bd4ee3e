use Rattle.std.proofs.Common.{◌-◌}
use Rattle.og_locate.specs.Deep.{IsBetween}
use Rattle.og_locate.proofs.deep.deep_at.Given as goal

abbrev pub invariant-halves : goal.invariant-halves
invariant-halves l = IsBetween l.piece l.flat l.deep

abbrev pub decreases-halves : goal.decreases-halves
decreases-halves l = l.deep - l.flat
