use Rattle.std.proofs.Common.{◌≡◌, drop, length, take}
use Rattle.std.specs.List.{flat_map}
use Rattle.og_query.specs.Kinds.{kinds_of}
use Rattle.og_plan.specs.PlanOf.{joined_from, tree_of}
use Rattle.og_plan.proofs.cores.tree_of.Given as goal

abbrev pub invariant-tables : goal.invariant-tables
invariant-tables l = record {
  start : l.start ≡ length (flat_map (λ table. kinds_of table.schema) (take l.k l.tables));
  left : joined_from l.kinds l.widths l.parts l.k l.start l.tree (drop l.k l.tables) ≡ tree_of l.kinds l.widths l.parts l.tables;
}
