-- The first rows stay through the range.
use Rattle.std.proofs.Common.{◌≡◌, take}
use Rattle.og_rel.specs.Relations.{present}
use Rattle.og_change.specs.Same.{IsAround}
use Rattle.og_change.proofs.steady.steady_range.Given as goal

abbrev pub invariant-rows : goal.invariant-rows
invariant-rows g l = IsAround (λ e. present g.R.Instant.meaning (take l.i l.rel) e ≡ present g.R.Instant.meaning (take l.i l.rel) l.d) l.d l.range
