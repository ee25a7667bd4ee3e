use Rattle.std.proofs.Common.{◌≡◌}
use Rattle.og_rel.specs.Shares.{rows_of}
use Rattle.og_rel.proofs.shares.all_rows.Given as goal

abbrev pub invariant-parts : goal.invariant-parts
invariant-parts g l = l.all.items ≡ rows_of l.yielded
