use Rattle.std.proofs.Common.{◌≡◌, ℤ, take}
use Rattle.std.specs.List.{flat_map}
use Rattle.og_base.specs.Calendar.{IsRefDay}
use Rattle.og_base.specs.Set.{set_of}
use Rattle.og_value.specs.Order.{row_order}
use Rattle.og_exec.specs.Tables.{rows_on}
use Rattle.og_db.specs.Deltas.{rest_at}
use Rattle.og_db.specs.Held.{rows_of}
use Rattle.og_view.specs.Again.{passing_rows}
use Rattle.og_view.proofs.rederived.rederived.Given as goal

abbrev pub invariant-cores : goal.invariant-cores
invariant-cores g l = (d : ℤ) → IsRefDay d → rows_on l.again d ≡ set_of row_order (flat_map (passing_rows d (rows_of (rest_at l.over.name.now l.over.delta.now l.over.tables.now)) l.sieve) (take l.core-index l.cores))
