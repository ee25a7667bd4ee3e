use Rattle.std.proofs.Common.{◌≡◌, drop, length}
use Rattle.og_check.specs.Cores.{star_from}
use Rattle.og_check.specs.Fronts.{with_fronts}
use Rattle.og_check.specs.Steps.{pure}
use Rattle.og_check.proofs.cores.add_columns.Given as goal

abbrev pub invariant-columns : goal.invariant-columns
invariant-columns l = with_fronts l.all.exprs l.all.columns.items (pure (star_from (length l.all.exprs) (drop l.i l.columns))) ≡ with_fronts l.fn.all.exprs l.fn.all.columns.items (pure (star_from (length l.fn.all.exprs) l.columns))
