use Rattle.std.proofs.Common.{arith}
use Rattle.og_join.proofs.PlaceLemmas.{all-at}
use Rattle.og_join.proofs.laws.each_pair_once.Goals as goal

pub returns : goal.returns
returns g c lo hi ls rs i j = all-at lo hi i j 0 0 ls rs i j (omega arith) (omega arith)
