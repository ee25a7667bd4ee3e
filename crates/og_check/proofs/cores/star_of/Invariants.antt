use Rattle.std.proofs.Common.{◌≡◌, drop, length}
use Rattle.og_check.specs.Cores.{star_from}
use Rattle.og_check.specs.Fronts.{parted, with_fronts}
use Rattle.og_check.specs.Sight.{joined}
use Rattle.og_check.specs.Steps.{pure}
use Rattle.og_check.proofs.cores.star_of.Given as goal

abbrev pub invariant-items : goal.invariant-items
invariant-items l = with_fronts l.all.exprs l.all.columns.items (pure (star_from (length l.all.exprs) (joined (drop l.item-index l.items)))) ≡ parted (pure (star_from 0 (joined l.items)))
