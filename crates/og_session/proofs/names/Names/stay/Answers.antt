use Rattle.std.proofs.Common.{subst}
use Rattle.og_db.specs.Effects.{on_names}
use Rattle.og_session.specs.Names.{IsDone}
use Rattle.og_session.proofs.NameSteps.{written_done}
use Rattle.og_session.proofs.names.Names.stay.Goals as goal

pub returns : goal.returns
returns c stmt is = subst (λ n. IsDone n n (on_names stmt)) c.self.view_is (written_done c.self.inside.db c.self.inside.views.entries c.self.invariant c.names_differ.ensures stmt is)
