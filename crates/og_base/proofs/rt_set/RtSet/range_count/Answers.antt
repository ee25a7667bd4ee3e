use Rattle.std.proofs.Common.{length, ap, arith}
use Rattle.og_base.proofs.RangeLemmas.{length-ranges_of}
use Rattle.og_base.proofs.rt_set.RtSet.range_count.Goals as goal

pub returns : goal.returns
returns c = rw (← c.self.view_is, length-ranges_of) (omega (arith, c.div_ceil.ensures, ap length c.as_slice.ensures))
