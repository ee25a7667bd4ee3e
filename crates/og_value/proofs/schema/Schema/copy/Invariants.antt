use Rattle.std.proofs.Common.{◌≡◌, take}
use Rattle.og_value.proofs.schema.Schema.copy.Given as goal

abbrev pub invariant-columns : goal.invariant-columns
invariant-columns l = l.copies ≡ take l.column-index l.columns
