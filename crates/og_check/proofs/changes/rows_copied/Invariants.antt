use Rattle.std.proofs.Common.{◌≡◌, take}
use Rattle.og_check.proofs.changes.rows_copied.Given as goal

abbrev pub invariant-rows : goal.invariant-rows
invariant-rows l = l.copies ≡ take l.row-index l.rows
