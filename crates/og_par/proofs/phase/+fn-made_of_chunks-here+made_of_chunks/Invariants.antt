use Rattle.std.proofs.Common.{◌+◌, ◌*◌, length}
use Rattle.og_par.proofs.phase.+fn-made_of_chunks-here+made_of_chunks.Given as goal

abbrev pub decreases-here : goal.decreases-here
decreases-here g l = 2 * length l.before.now + 1

abbrev pub decreases-made_of_chunks : goal.decreases-made_of_chunks
decreases-made_of_chunks g l = 2 * length l.items.now
