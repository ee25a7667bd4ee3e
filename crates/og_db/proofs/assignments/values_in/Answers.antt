use Rattle.std.proofs.Common.{[]}
use Rattle.og_query.proofs.ValueLemmas.{append_found}
use Rattle.og_db.proofs.assignments.values_in.Goals as goal

pub values-preserved : goal.values-preserved
values-preserved c = append_found c.args.row.now c.values.i _ _ [] _ _ c.value.ensures c.in_ok-copy.ensures c.values.invariant c.in_ok-push.ensures.items
