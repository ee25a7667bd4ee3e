-- The lines before that one were put.
use Rattle.std.proofs.Common.{◌≡◌, take}
use Rattle.std.specs.Io.KnownBytes.{Appends}
use Rattle.std.specs.List.{flat_map}
use Rattle.og_plan.specs.Text.{line_text}
use Rattle.og_output.proofs.puts.put_lines.Given as goal

abbrev pub invariant-lines : goal.invariant-lines
invariant-lines g l = record {
  put : Appends (g.K.Sink.written l.fn.out) (g.K.Sink.written l.out) (flat_map line_text (take l.line-index l.lines));
  stays : g.K.Sink.faults l.out ≡ g.K.Sink.faults l.fn.out;
}
