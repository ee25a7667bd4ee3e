use Rattle.std.proofs.Common.{◌∙◌}
use Rattle.og_check.proofs.HitLemmas.{named_next}
use Rattle.og_check.proofs.columns.more_named.Goals as goal

pub columns-preserved : goal.columns-preserved
columns-preserved c = rw c.next_hits-hits.ensures (named_next c.columns.hits c.args.name.now c.args.place c.columns.i c.args.columns.now c.column.result.now c.column.ensures ∙ c.columns.invariant)
