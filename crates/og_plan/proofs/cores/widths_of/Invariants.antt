use Rattle.std.proofs.Common.{◌≡◌, take}
use Rattle.og_plan.specs.PlanOf.{widths_of}
use Rattle.og_plan.proofs.cores.widths_of.Given as goal

abbrev pub invariant-tables : goal.invariant-tables
invariant-tables l = l.widths.items ≡ widths_of (take l.table-index l.tables)
