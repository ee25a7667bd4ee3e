use Rattle.std.specs.List.Sorted.{IsPermutation}
use Rattle.og_rel.specs.Shares.{rows_of, rows_of_shares}
use Rattle.og_rel.proofs.shares.shares_of.Given as goal

abbrev pub invariant-parts : goal.invariant-parts
invariant-parts g l = IsPermutation (rows_of l.yielded) (rows_of_shares l.shares.items)
