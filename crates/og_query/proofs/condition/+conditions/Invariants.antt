use Rattle.std.proofs.Common.{◌≡◌, take}
use Rattle.og_query.proofs.condition.+conditions.Given as goal

abbrev pub invariant-copy_conditions-all : goal.invariant-copy_conditions-all
invariant-copy_conditions-all l = l.copies ≡ take l.one-index l.one-items
