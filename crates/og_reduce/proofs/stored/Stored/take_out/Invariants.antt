use Rattle.og_reduce.proofs.RemovedLemmas.{HaveCome}
use Rattle.og_reduce.proofs.stored.Stored.take_out.Given as goal

abbrev pub invariant-places : goal.invariant-places
invariant-places l = HaveCome l.at l.initial.self l.from l.k l.self
