use Rattle.std.proofs.Common.{take}
use Rattle.og_par.specs.Phase.{MadeOfEach}
use Rattle.og_par.proofs.phase.made_of_chunk.Given as goal

abbrev pub invariant-items : goal.invariant-items
invariant-items g l = MadeOfEach (g.P.Piece.gives l.piece) (take l.item-index l.chunk) l.out.items
