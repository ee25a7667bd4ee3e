use Rattle.std.proofs.Common.{◌∙◌, arith}
use Rattle.std.proofs.lemmas.Int.{ints}
use Rattle.og_time.proofs.CutLemmas.{none_before}
use Rattle.og_time.proofs.cuts.around.Goals as goal

pub returns-then-le : goal.returns-then-le
returns-then-le c d r = c.between.ensures d r ∙ rw c.of-then-le.ensures (none_before d c.args.end c.args.next r (grind (arith, ints, c.le.ensures, c.if-le.true, c.of.ensures)))
