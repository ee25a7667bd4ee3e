use Rattle.std.proofs.Common.{◌≡◌, drop, ◌+◌}
use Rattle.og_check.specs.Cores.{items_from}
use Rattle.og_check.specs.Fronts.{parted, with_fronts}
use Rattle.og_check.specs.Steps.{in_order}
use Rattle.og_check.proofs.cores.list_of.Given as goal

abbrev pub invariant-each : goal.invariant-each
invariant-each l = with_fronts l.all.exprs l.all.columns.items (in_order (items_from l.sight (l.i + 1) (drop l.i l.list))) ≡ parted (in_order (items_from l.sight 1 l.list))
