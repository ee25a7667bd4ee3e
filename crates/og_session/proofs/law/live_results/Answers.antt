use Rattle.og_session.proofs.LiveLaw.{dropped_order, dropped_rows, live_rows}
use Rattle.og_session.proofs.NamedLive.{live_has_query}
use Rattle.og_session.proofs.law.live_results.Goals as goal
use Rattle.og_db.specs.Effects.{on_names}
use Rattle.og_query.specs.declared.typed.Typed.TheVariants as t
use Rattle.std.proofs.Common.{◌∷◌}

pub returns-clause-live : goal.returns-clause-live
returns-clause-live c words source start run before after defined parts day = live_rows day words source start run before after defined parts

pub returns-clause-all : goal.returns-clause-all
returns-clause-all c = live_has_query

pub returns-clause-dropped : goal.returns-clause-dropped
returns-clause-dropped c words source start run before after table defined parts day = dropped_rows day words source start run before (on_names (t.Drop table, tt) ∷ after) defined parts table

pub returns-clause-order : goal.returns-clause-order
returns-clause-order c before table day = dropped_order day before table
