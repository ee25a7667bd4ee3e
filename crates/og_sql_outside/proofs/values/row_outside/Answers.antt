use Rattle.std.proofs.Common.{arith}
use Rattle.std.proofs.lemmas.Grind.{common_steps}
use Rattle.og_sql_outside.specs.Outside.{outside_value}
use Rattle.og_sql_outside.proofs.FirstLemmas.{first_in-at}
use Rattle.og_sql_outside.proofs.values.row_outside.Goals as goal

pub returns-then-is_some : goal.returns-then-is_some
returns-then-is_some c =
    let step = first_in-at outside_value c.args.row.now c.values.i c.value.result.now c.value.ensures in
    grind (arith, common_steps)

pub values-preserved : goal.values-preserved
values-preserved c =
    let step = first_in-at outside_value c.args.row.now c.values.i c.value.result.now c.value.ensures in
    grind (arith, common_steps)
