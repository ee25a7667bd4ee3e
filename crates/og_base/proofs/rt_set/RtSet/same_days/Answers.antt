use Rattle.og_base.proofs.SetOpLemmas.{same_ranges}
use Rattle.og_base.proofs.rt_set.RtSet.same_days.Goals as goal

pub returns : goal.returns
returns c = rw (← c.self.view_is, ← c.other.view_is) (same_ranges c.self.inside.boundaries c.other.inside.boundaries c.self.invariant c.other.invariant)
