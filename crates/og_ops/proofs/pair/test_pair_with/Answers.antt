use Rattle.std.proofs.Common.{rules}
use Rattle.og_ops.proofs.DayLemmas.{some_day_of}
use Rattle.og_ops.proofs.pair.test_pair_with.Goals as goal

pub returns-clause-some_day : goal.returns-clause-some_day
returns-clause-some_day g c = some_day_of c.in_ok-days.days _ c.normal.ensures (search rules) c.in_ok-days.ensures
