use Rattle.std.proofs.Common.{[], take}
use Rattle.og_view.specs.Parts.{AreParts, beside_at}
use Rattle.og_view.proofs.placed.parts_beside.Given as goal

abbrev pub invariant-places : goal.invariant-places
invariant-places g l = AreParts (beside_at (g.T.Tables.named l.change.over.now) l.change.new.now l.place l.tables) l.sieve [] (take l.k l.tables) l.parts.items
