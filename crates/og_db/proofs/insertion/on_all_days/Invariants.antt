use Rattle.std.proofs.Common.{◌≡◌}
use Rattle.og_db.specs.Insertion.{on_all_days}
use Rattle.og_db.proofs.insertion.on_all_days.Given as goal

abbrev pub invariant-rows : goal.invariant-rows
invariant-rows l = l.rel ≡ on_all_days l.yielded
