-- The first rows are frozen.
use Rattle.std.proofs.Common.{◌≡◌, ℤ, take}
use Rattle.og_base.specs.Calendar.{IsRefDay}
use Rattle.og_rel.specs.Relations.{present}
use Rattle.og_change.proofs.same.frozen_rows.Given as goal

abbrev pub invariant-rows : goal.invariant-rows
invariant-rows g l = (e : ℤ) → IsRefDay e → present g.R.Instant.meaning l.frozen e ≡ present g.R.Instant.meaning (take l.i l.rel) l.d
