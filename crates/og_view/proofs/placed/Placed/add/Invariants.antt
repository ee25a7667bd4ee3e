use Rattle.std.proofs.Common.{◌≡◌, ◌++◌, ℤ, take}
use Rattle.std.specs.List.{flat_map}
use Rattle.og_base.specs.Calendar.{IsRefDay}
use Rattle.og_base.specs.Set.{set_of}
use Rattle.og_value.specs.Order.{row_order}
use Rattle.og_exec.specs.Tables.{rows_on}
use Rattle.og_view.specs.Placed.{more_lists}
use Rattle.og_view.specs.Rows.{rows_over}
use Rattle.og_view.proofs.placed.Placed.add.Given as goal

abbrev pub invariant-places : goal.invariant-places
invariant-places g l =
    (d : ℤ) → IsRefDay d → rows_on l.more d ≡ set_of row_order (rows_on l.fn.more d
    ++ flat_map (rows_over d l.self) (take l.place (more_lists d (g.T.Tables.named l.change.over.now) l.change.name.now l.change.new.now l.self)))
