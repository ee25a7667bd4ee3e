use Rattle.std.proofs.Common.{◌≡◌}
use Rattle.std.specs.List.{All}
use Rattle.std.specs.List.Sorted.{IsStrictlySortedBy}
use Rattle.og_base.specs.Set.{set_of}
use Rattle.og_rel.specs.Shares.{rows_of}
use Rattle.og_rel.proofs.ordered.in_order.Given as goal

abbrev pub invariant-lists : goal.invariant-lists
invariant-lists g l = All (λ list. IsStrictlySortedBy g.F.Ord.cmp list.items) l.yielded → l.all.items ≡ set_of g.F.Ord.cmp (rows_of l.yielded)
