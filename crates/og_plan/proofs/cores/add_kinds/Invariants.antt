use Rattle.std.proofs.Common.{◌≡◌, ◌++◌, take}
use Rattle.og_query.specs.Kinds.{kinds_of}
use Rattle.og_plan.proofs.cores.add_kinds.Given as goal

abbrev pub invariant-columns : goal.invariant-columns
invariant-columns l = l.kinds.items ≡ l.fn.kinds.items ++ kinds_of (take l.i l.schema)
