-- The texts before that one were put.
use Rattle.std.proofs.Common.{◌≡◌, take}
use Rattle.std.specs.Io.KnownBytes.{Appends}
use Rattle.std.specs.List.{flat_map}
use Rattle.og_output.proofs.puts.put_texts.Given as goal

abbrev pub invariant-texts : goal.invariant-texts
invariant-texts g l = record {
  put : Appends (g.K.Sink.written l.fn.out) (g.K.Sink.written l.out) (flat_map (λ text. text.items) (take l.text-index l.texts));
  stays : g.K.Sink.faults l.out ≡ g.K.Sink.faults l.fn.out;
}
