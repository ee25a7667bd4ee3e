use Rattle.og_rel.proofs.PlaceLemmas.{AreKept}
use Rattle.og_rel.proofs.places.remove_at.Given as goal

abbrev pub invariant-items : goal.invariant-items
invariant-items g l = AreKept l.at l.initial.items.items l.kept l.k l.i l.items.items
