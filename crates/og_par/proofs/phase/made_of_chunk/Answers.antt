use Rattle.og_par.proofs.PhaseLemmas.{MadeOfEach-more}
use Rattle.og_par.proofs.phase.made_of_chunk.Goals as goal

pub items-preserved : goal.items-preserved
items-preserved g c =
    let made = c.in_ok-make.ensures in
    MadeOfEach-more (g.P.Piece.gives c.args.piece.now) c.args.chunk.now c.items.item-index _ made.0 c.items.out.items _ c.items-test.true c.item-item.is made.2 made.1 c.items.invariant
