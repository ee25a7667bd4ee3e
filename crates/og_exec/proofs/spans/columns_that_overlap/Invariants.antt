use Rattle.std.specs.Prelude.{⊤}
use Rattle.og_exec.proofs.spans.columns_that_overlap.Given as goal

abbrev pub invariant-parts : goal.invariant-parts
invariant-parts l = ⊤
