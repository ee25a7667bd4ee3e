use Rattle.std.proofs.Common.{◌≡◌}
use Rattle.og_session.proofs.follow.keep_columns.Given as goal

abbrev pub invariant-names : goal.invariant-names
invariant-names l = l.db ≡ l.initial.db
