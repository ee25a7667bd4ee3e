-- The views before that place have followed, and the others are as they were.
use Rattle.og_session.specs.Following.{Follows}
use Rattle.og_session.proofs.FollowLemmas.{AreAhead}
use Rattle.og_session.proofs.follow.follow.Given as goal

abbrev pub invariant-views : goal.invariant-views
invariant-views g l = AreAhead (Follows l.fn.db l.fn.name l.fn.delta) l.at l.fn.views.entries l.views.entries
