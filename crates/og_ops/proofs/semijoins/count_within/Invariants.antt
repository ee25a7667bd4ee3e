use Rattle.std.proofs.Common.{◌≡◌, true}
use Rattle.std.specs.List.{AllWithin}
use Rattle.std.specs.Ordering.{is_le}
use Rattle.og_ops.proofs.semijoins.count_within.Given as goal

abbrev pub invariant-rows : goal.invariant-rows
invariant-rows g l = AllWithin (λ other. is_le (g.K.Ord.cmp other.key l.key) ≡ true) l.rows 0 l.i
