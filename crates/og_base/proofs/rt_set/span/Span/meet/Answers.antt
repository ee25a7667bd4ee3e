use Rattle.std.proofs.Common.{int_lt}
use Rattle.og_base.proofs.SpanLemmas.{between_both}
use Rattle.og_base.proofs.rt_set.span.Span.meet.Goals as goal

pub returns : goal.returns
returns c d =
    let mine = c.self.inside in
    let theirs = c.other.inside in
    rw (← c.self.view_is, ← c.other.view_is, c.later.ensures d, c.earlier.ensures d) (between_both (int_lt d mine.lo) (int_lt d theirs.lo) (int_lt d mine.hi) (int_lt d theirs.hi))
