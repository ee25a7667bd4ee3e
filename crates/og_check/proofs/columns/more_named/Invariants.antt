use Rattle.std.proofs.Common.{◌≡◌, ◌+◌, drop}
use Rattle.og_check.specs.Hits.{with_found}
use Rattle.og_check.specs.Sight.{named}
use Rattle.og_check.proofs.columns.more_named.Given as goal

abbrev pub invariant-columns : goal.invariant-columns
invariant-columns l = with_found l.hits (named l.name (l.place + l.i) (drop l.i l.columns)) ≡ with_found l.fn.hits (named l.name l.place l.columns)
