use Rattle.std.proofs.Common.{arith}
use Rattle.std.proofs.lemmas.Int.{ints}
use Rattle.og_base.specs.Calendar.{before_all}
use Rattle.og_base.proofs.BoundaryLemmas.{IsNormal-ranges_of}
use Rattle.og_base.proofs.rt_set.RtSet.normal.Goals as goal

pub returns : goal.returns
returns c = rw (← c.self.view_is) (IsNormal-ranges_of before_all _ (omega (arith, ints)) c.self.invariant)
