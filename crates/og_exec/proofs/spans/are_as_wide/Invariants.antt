use Rattle.std.proofs.Common.{◌≡◌, length, take}
use Rattle.std.specs.List.{All}
use Rattle.og_exec.proofs.spans.are_as_wide.Given as goal

abbrev pub invariant-rows : goal.invariant-rows
invariant-rows l = All (λ p. length p.0 ≡ l.width) (take l.i l.rel)
