use Rattle.og_join.specs.Groups.{AreGroupsOf}
use Rattle.og_join.proofs.groups.large_groups.Given as goal

abbrev pub invariant-rows : goal.invariant-rows
invariant-rows g l = AreGroupsOf g.K.Ord.cmp l.rows l.groups.items
