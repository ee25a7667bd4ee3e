use Rattle.og_base.proofs.SetOpLemmas.{holds_day-op}
use Rattle.og_base.proofs.rt_set.RtSet.combined.Goals as goal

pub returns : goal.returns
returns c = holds_day-op c.args.op c.args.left.now c.args.right.now c.in_ok-boundaries.boundaries c.requires.left_rises c.requires.right_rises c.in_ok-boundaries.ensures.rises c.in_ok-boundaries.ensures.holds
