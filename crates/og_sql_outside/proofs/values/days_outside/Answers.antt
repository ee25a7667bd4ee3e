use Rattle.std.proofs.Common.{arith}
use Rattle.std.proofs.lemmas.Grind.{common_steps}
use Rattle.og_sql_outside.specs.Outside.{outside_range}
use Rattle.og_sql_outside.proofs.FirstLemmas.{first_in-at}
use Rattle.og_sql_outside.proofs.values.days_outside.Goals as goal

pub returns-then-is_some : goal.returns-then-is_some
returns-then-is_some c =
    let step = first_in-at outside_range c.args.days.now c.days.i c.range.result c.range.ensures in
    grind (arith, common_steps)

pub days-preserved : goal.days-preserved
days-preserved c =
    let step = first_in-at outside_range c.args.days.now c.days.i c.range.result c.range.ensures in
    grind (arith, common_steps)
