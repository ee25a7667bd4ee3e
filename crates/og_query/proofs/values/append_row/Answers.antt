use Rattle.og_query.proofs.ValueLemmas.{append_found}
use Rattle.og_query.proofs.values.append_row.Goals as goal

pub values-preserved : goal.values-preserved
values-preserved c = append_found c.args.row.now c.values.i _ _ _ _ _ c.value.ensures c.in_ok-copy_value.ensures c.values.invariant c.in_ok-push.ensures.items
