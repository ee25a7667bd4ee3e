-- What was taken so far is in the writer, and each turn takes some of what is left.
use Rattle.std.proofs.Common.{◌-◌, ◌≤◌, length, take}
use Rattle.std.specs.Io.KnownBytes.{Appends}
use Rattle.og_io.proofs.standard.write_whole.Given as goal

abbrev pub invariant-loop-taken : goal.invariant-loop-taken
invariant-loop-taken g l = record {
  within : l.taken ≤ length l.piece;
  written : Appends (g.W.Write.contents l.initial.writer) (g.W.Write.contents l.writer) (take l.taken l.piece);
}

abbrev pub decreases-loop-taken : goal.decreases-loop-taken
decreases-loop-taken g l = length l.piece - l.taken
