use Rattle.std.proofs.Common.{◌≡◌, ◌-◌, drop, length}
use Rattle.std.specs.List.{flat_map}
use Rattle.og_output.proofs.PutLemmas.{ArePutUpTo}
use Rattle.og_output.proofs.puts.put_blocks.Given as goal

abbrev pub invariant-rounds : goal.invariant-rounds
invariant-rounds g l = record {
  put : ArePutUpTo (g.K.Sink.written l.fn.out) (g.K.Sink.written l.out) (flat_map (λ b. b.now) l.blocks) (flat_map (λ b. b.now) (drop l.next l.blocks));
  stays : g.K.Sink.faults l.out ≡ g.K.Sink.faults l.fn.out;
}

abbrev pub decreases-rounds : goal.decreases-rounds
decreases-rounds g l = length l.blocks - l.next
