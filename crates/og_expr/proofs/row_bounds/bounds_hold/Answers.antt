use Rattle.og_expr.proofs.BoundLemmas.{never_holds}
use Rattle.og_expr.proofs.row_bounds.bounds_hold.Goals as goal

pub returns : goal.returns
returns c row cond never d _ = never_holds row d cond never
