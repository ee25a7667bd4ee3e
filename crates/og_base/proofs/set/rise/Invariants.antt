-- Each value up to that place comes before the next.
use Rattle.std.proofs.Common.{◌≡◌, Less}
use Rattle.std.specs.List.{AllAdjacentBelow}
use Rattle.og_base.proofs.set.rise.Given as goal

abbrev pub invariant-values : goal.invariant-values
invariant-values g l = AllAdjacentBelow (λ x y. g.T.Ord.cmp x y ≡ Less) l.values l.i
