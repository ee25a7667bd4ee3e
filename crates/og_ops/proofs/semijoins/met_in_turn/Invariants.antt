use Rattle.std.proofs.Common.{◌≡◌, ℤ, take}
use Rattle.std.specs.List.{list_any}
use Rattle.og_base.specs.Calendar.{IsRefDay}
use Rattle.og_base.specs.Ranges.{holds_day}
use Rattle.og_rel.specs.Relations.{present}
use Rattle.og_ops.specs.Lending.{lent}
use Rattle.og_ops.proofs.semijoins.met_in_turn.Given as goal

abbrev pub invariant-rows : goal.invariant-rows
invariant-rows g l = (d : ℤ) → IsRefDay d → holds_day l.found d
    ≡ list_any (g.M.Matching.meets l.matching d (g.R.Instant.meaning l.left d)) (present g.R.Instant.meaning (lent (take l.other-index l.rows)) d)
