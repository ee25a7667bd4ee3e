use Rattle.std.proofs.Common.{take}
use Rattle.og_ops.specs.Members.{AreMembers}
use Rattle.og_ops.proofs.semijoins.members_of.Given as goal

abbrev pub invariant-rows : goal.invariant-rows
invariant-rows g l = AreMembers (g.M.Matching.standing l.matching) (take l.i l.rel) l.members.items
