use Rattle.std.proofs.Common.{◌≡◌}
use Rattle.std.specs.List.{flat_map}
use Rattle.og_ops.proofs.each_row.one_after_another.Given as goal

abbrev pub invariant-parts : goal.invariant-parts
invariant-parts g l = l.all ≡ flat_map (λ part. part) l.yielded
