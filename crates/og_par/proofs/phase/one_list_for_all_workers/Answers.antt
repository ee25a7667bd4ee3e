use Rattle.og_par.proofs.PhaseLemmas.{one_list}
use Rattle.og_par.proofs.phase.one_list_for_all_workers.Goals as goal

pub returns : goal.returns
returns g c = λ one a b h k. one_list (g.P.Piece.gives c.args.piece.now) one c.args.items.now a b h k
