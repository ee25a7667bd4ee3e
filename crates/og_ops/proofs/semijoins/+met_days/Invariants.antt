-- The rows that are left to go over.
use Rattle.std.proofs.Common.{length}
use Rattle.og_ops.proofs.semijoins.+met_days.Given as goal

abbrev pub decreases-met_days : goal.decreases-met_days
decreases-met_days g l = length l.rows.now
