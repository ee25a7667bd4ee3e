use Rattle.og_query.proofs.QueryLemmas.{either_order_of_tables}
use Rattle.og_query.proofs.laws.tables_in_either_order.Goals as goal

pub returns : goal.returns
returns c = either_order_of_tables
