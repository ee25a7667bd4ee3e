use Rattle.og_par.proofs.PartLemmas.{MakesOf-met}
use Rattle.og_par.proofs.handed.fn.par_handed.new.Goals as goal

pub returns : goal.returns
returns g c = MakesOf-met g.F.Fn c.captures.make.now c.captures.last c.make.result c.make.ensures
