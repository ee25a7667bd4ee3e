use Rattle.og_value.specs.Exact.{rows_apart, rows_total}
use Rattle.og_value.proofs.sight.order_of_sights.Goals as goal

pub returns-clause-exact : goal.returns-clause-exact
returns-clause-exact c = record { total = rows_total; exact = rows_apart }
