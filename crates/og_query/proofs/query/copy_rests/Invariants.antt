use Rattle.std.proofs.Common.{◌≡◌, take}
use Rattle.og_query.proofs.query.copy_rests.Given as goal

abbrev pub invariant-all : goal.invariant-all
invariant-all l = l.copies ≡ take l.one-index l.one-items
