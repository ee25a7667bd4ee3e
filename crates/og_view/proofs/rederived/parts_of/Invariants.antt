use Rattle.std.proofs.Common.{[], take}
use Rattle.og_db.specs.Deltas.{rest_at}
use Rattle.og_db.specs.Held.{rows_of}
use Rattle.og_view.specs.Parts.{AreParts, own_at}
use Rattle.og_view.proofs.rederived.parts_of.Given as goal

abbrev pub invariant-places : goal.invariant-places
invariant-places l = AreParts (own_at (rows_of (rest_at l.over.name.now l.over.delta.now l.over.tables.now)) l.tables) l.sieve [] (take l.place l.tables) l.parts.items
