use Rattle.std.proofs.Common.{◌≡◌, take}
use Rattle.std.specs.List.{flat_map}
use Rattle.og_query.specs.Kinds.{kinds_of}
use Rattle.og_plan.proofs.cores.kinds_in.Given as goal

abbrev pub invariant-tables : goal.invariant-tables
invariant-tables l = l.kinds.items ≡ flat_map (λ table. kinds_of table.schema) (take l.table-index l.tables)
