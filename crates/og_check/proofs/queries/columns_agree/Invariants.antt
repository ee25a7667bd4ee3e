use Rattle.std.proofs.Common.{◌≡◌, drop}
use Rattle.og_query.specs.Kinds.{kinds_of}
use Rattle.og_check.specs.Steps.{agree, same_kinds}
use Rattle.og_check.proofs.queries.columns_agree.Given as goal

abbrev pub invariant-columns : goal.invariant-columns
invariant-columns l = same_kinds (kinds_of (drop l.i l.found)) (kinds_of (drop l.i l.wanted)) ≡ agree (kinds_of l.found) (kinds_of l.wanted)
