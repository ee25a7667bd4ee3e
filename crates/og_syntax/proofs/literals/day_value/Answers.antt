use Rattle.std.proofs.Common.{ap}
use Rattle.og_value.specs.declared.value.Value.TheVariants as v
use Rattle.og_syntax.proofs.LiteralRules.{day_given, no_day_given}
use Rattle.og_syntax.proofs.literals.day_value.Goals as goal

pub returns-in-Ok : goal.returns-in-Ok
returns-in-Ok c = day_given c.args.text.now c.in-Ok.day _ c.in-Ok.ensures.value (ap v.Point c.fixed.ensures)

pub returns-in-Err : goal.returns-in-Err
returns-in-Err c = no_day_given c.args.text.now c.in-Err.ensures.refused
