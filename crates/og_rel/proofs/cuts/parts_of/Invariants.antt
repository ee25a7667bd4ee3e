use Rattle.std.proofs.Common.{◌++◌}
use Rattle.std.specs.List.Sorted.{IsPermutation}
use Rattle.og_rel.specs.Shares.{rows_of}
use Rattle.og_rel.proofs.cuts.parts_of.Given as goal

abbrev pub invariant-cuts : goal.invariant-cuts
invariant-cuts g l = IsPermutation l.fn.rows.items (l.rest.items ++ rows_of l.parts.items)
