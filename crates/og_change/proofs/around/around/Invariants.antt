-- The day lies in what is left of the set.
use Rattle.og_base.specs.Calendar.{IsRefDay}
use Rattle.og_change.proofs.AroundLemmas.{IsLeft}
use Rattle.og_change.proofs.around.around.Given as goal

abbrev pub invariant-places : goal.invariant-places
invariant-places l = record { left : IsLeft l.set l.fn.d l.low l.i; low_in : IsRefDay l.low }
