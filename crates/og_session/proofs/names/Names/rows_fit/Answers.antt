use Rattle.std.proofs.Common.{subst}
use Rattle.og_session.specs.Answers.{AreHeld}
use Rattle.og_db.specs.Held.{known_of, rows_of}
use Rattle.og_session.proofs.LiveViews.{names_held}
use Rattle.og_session.proofs.names.Names.rows_fit.Goals as goal

pub returns : goal.returns
returns c = record { held = subst (λ n. AreHeld (known_of n.names) (rows_of n.names)) c.self.view_is (names_held c.self.inside.db c.self.inside.views.entries c.self.invariant c.rows_fit.ensures.held) }
