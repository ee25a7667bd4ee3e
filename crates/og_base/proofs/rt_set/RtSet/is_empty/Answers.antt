use Rattle.std.proofs.Common.{length, refl}
use Rattle.og_base.proofs.RangeLemmas.{none_held}
use Rattle.og_base.proofs.rt_set.RtSet.is_empty.Goals as goal

pub returns-clause-days : goal.returns-clause-days
returns-clause-days c =
    let days = c.self.inside.boundaries in
    rw (c.is_empty.ensures, c.as_slice.ensures, ← c.self.view_is) (none_held days (length days) refl c.self.invariant)
