use Rattle.std.proofs.Common.{◌≡◌, ◌-◌, ◌^◌, fold, min, take}
use Rattle.og_query.specs.Sizes.{combined_size, core_size}
use Rattle.og_exec.specs.Tables.{sizes_of}
use Rattle.og_db.specs.Deltas.{after_at}
use Rattle.og_db.specs.Held.{rows_of}
use Rattle.og_view.proofs.sizes.size_of.Given as goal

abbrev pub invariant-rests : goal.invariant-rests
invariant-rests l =
    l.size ≡ min (fold (λ size rest. combined_size rest.op size (core_size (sizes_of (rows_of (after_at l.over.name.now l.over.delta.now l.over.tables.now))) rest.core)) (core_size (sizes_of (rows_of (after_at l.over.name.now l.over.delta.now l.over.tables.now))) l.query.first) (take l.rest-index l.rest-items)) (2 ^ 64 - 1)
