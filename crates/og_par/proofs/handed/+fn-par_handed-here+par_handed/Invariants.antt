use Rattle.std.proofs.Common.{◌+◌, ◌*◌}
use Rattle.og_par.proofs.handed.+fn-par_handed-here+par_handed.Given as goal

abbrev pub decreases-here : goal.decreases-here
decreases-here g l = 2 * l.items.len + 1

abbrev pub decreases-par_handed : goal.decreases-par_handed
decreases-par_handed g l = 2 * l.items.len
