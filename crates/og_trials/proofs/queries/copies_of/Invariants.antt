use Rattle.std.proofs.Common.{◌≡◌, take}
use Rattle.og_trials.proofs.queries.copies_of.Given as goal

abbrev pub invariant-rows : goal.invariant-rows
invariant-rows l = l.copies.items ≡ take l.row-index l.rows
