use Rattle.std.specs.List.Sorted.{IsPermutation}
use Rattle.og_rel.specs.Shares.{rows_of}
use Rattle.og_output.proofs.sights.parts_of_lists.Given as goal

abbrev pub invariant-lists : goal.invariant-lists
invariant-lists l = IsPermutation (rows_of l.yielded) (rows_of l.parts.items)
