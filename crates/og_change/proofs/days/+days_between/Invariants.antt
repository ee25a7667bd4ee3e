-- The rows that are left to go over.
use Rattle.std.proofs.Common.{◌-◌}
use Rattle.og_change.proofs.days.+days_between.Given as goal

abbrev pub decreases-days_between : goal.decreases-days_between
decreases-days_between g l = l.to - l.from
