use Rattle.std.proofs.Common.{◌≡◌, ℤ, take}
use Rattle.std.specs.List.{flat_map}
use Rattle.og_base.specs.Calendar.{IsRefDay}
use Rattle.og_base.specs.Set.{set_of}
use Rattle.og_value.specs.Order.{row_order}
use Rattle.og_exec.specs.Tables.{rows_on}
use Rattle.og_view.specs.Placed.{more_rows}
use Rattle.og_view.proofs.placed.more_of.Given as goal

abbrev pub invariant-cores : goal.invariant-cores
invariant-cores g l =
    (d : ℤ) → IsRefDay d → rows_on l.more d ≡ set_of row_order (flat_map (more_rows d (g.T.Tables.named l.change.over.now) l.change.name.now l.change.new.now) (take l.core-index l.cores))
