use Rattle.std.proofs.Common.{◌≡◌, ◌*◌, ◌-◌, ◌^◌, fold, min, take}
use Rattle.og_exec.specs.Tables.{sizes_of}
use Rattle.og_db.specs.Deltas.{after_at}
use Rattle.og_db.specs.Held.{rows_of}
use Rattle.og_view.proofs.sizes.core_size.Given as goal

abbrev pub invariant-tables : goal.invariant-tables
invariant-tables l = l.size ≡ min (fold (λ size table. size * sizes_of (rows_of (after_at l.over.name.now l.over.delta.now l.over.tables.now)) table.name) 1 (take l.table-index l.table-items)) (2 ^ 64 - 1)
