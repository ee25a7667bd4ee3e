use Rattle.og_view.proofs.DeltaLemmas.{after_held, rest_held}
use Rattle.og_view.proofs.table_delta.TableDelta.rows_fit.Goals as goal

pub returns-clause-rest : goal.returns-clause-rest
returns-clause-rest c = let over = c.args.self.now in rest_held over.tables.now over.name.now over.delta.now c.requires c.rows_fit.ensures.held

pub returns-clause-after : goal.returns-clause-after
returns-clause-after c = let over = c.args.self.now in after_held over.tables.now over.name.now over.delta.now c.requires c.rows_fit.ensures.held
