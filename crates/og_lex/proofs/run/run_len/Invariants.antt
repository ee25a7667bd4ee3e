use Rattle.std.proofs.Common.{◌≡◌, ◌+◌, ◌-◌, ◌≤◌, length, drop}
use Rattle.std.specs.List.{prefix_len}
use Rattle.og_lex.specs.Front.{is_in}
use Rattle.og_lex.proofs.run.run_len.Given as goal

abbrev pub invariant-run : goal.invariant-run
invariant-run l = (l.end + prefix_len (is_in l.class) (drop l.end l.z) ≡ prefix_len (is_in l.class) l.z) × (l.end ≤ length l.z)

abbrev pub decreases-run : goal.decreases-run
decreases-run l = length l.z - l.end
