-- The views before that place follow no more, and the others are as they were.
use Rattle.og_session.specs.Following.{IsEnded}
use Rattle.og_session.proofs.FollowLemmas.{AreAhead}
use Rattle.og_session.proofs.follow.end.Given as goal

abbrev pub invariant-views : goal.invariant-views
invariant-views l = AreAhead (IsEnded l.done) l.at l.fn.views.entries l.views.entries
