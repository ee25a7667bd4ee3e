use Rattle.std.proofs.Common.{◌≡◌, ◌++◌, List, take}
use Rattle.std.specs.List.{All}
use Rattle.og_ops.specs.Lending.{lent}
use Rattle.og_rel.specs.declared.pair.Pair.{Pair}
use Rattle.og_join.specs.SameKey.{AreHits, IsNear}
use Rattle.og_join.proofs.same_key.try_others.Given as goal

abbrev pub invariant-others : goal.invariant-others
invariant-others g l = (made : List (Pair g.row.R.Denot))
    × (All (IsNear g.R.Glue.glued g.R.Instant.meaning (g.C.DayCond.holds l.cond) l.span l.left.row) l.others
    → AreHits g.R.Glue.glued (g.M.PairMap.image l.pair_map) (g.C.DayCond.holds l.cond) g.R.Instant.meaning l.left.row l.left.days (lent (take l.other-index l.others)) made)
    × (l.out.items ≡ l.initial.out.items ++ made)
