use Rattle.std.proofs.Common.{◌≡◌, ◌++◌, List, take}
use Rattle.og_par.specs.Phase.{MadeOfEach}
use Rattle.og_rel.specs.declared.pair.Pair.{Pair}
use Rattle.og_join.specs.Tried.{IsMadeOf, rows_meet}
use Rattle.og_join.proofs.tries.try_pairs.Given as goal

abbrev pub invariant-pairs : goal.invariant-pairs
invariant-pairs g l = (made : List (Pair g.row.R.Denot))
    × MadeOfEach (λ places. IsMadeOf (g.M.PairMap.image l.sides.pair_map.now) g.R.Instant.meaning (rows_meet g.R.Glue.glued g.R.Instant.meaning (g.C.DayCond.holds l.sides.cond.now) l.sides.left.now l.sides.right.now places.0 places.1)) (take l.places-index l.pairs) made
    × (l.out.items ≡ l.initial.out.items ++ made)
