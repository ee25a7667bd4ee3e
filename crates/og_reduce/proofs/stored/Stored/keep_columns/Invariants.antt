use Rattle.std.proofs.Common.{◌≡◌}
use Rattle.og_reduce.proofs.stored.Stored.keep_columns.Given as goal

abbrev pub invariant-columns : goal.invariant-columns
invariant-columns l = l.self ≡ l.initial.self
