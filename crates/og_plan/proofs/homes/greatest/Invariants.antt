use Rattle.std.proofs.Common.{◌≡◌, fold, max, take}
use Rattle.og_plan.proofs.homes.greatest.Given as goal

abbrev pub invariant-others : goal.invariant-others
invariant-others l = l.most ≡ fold max l.first (take l.other-index l.others)
