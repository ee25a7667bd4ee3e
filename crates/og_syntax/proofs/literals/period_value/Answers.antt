use Rattle.std.proofs.Common.{refl}
use Rattle.og_syntax.proofs.LiteralRules.{period_given, no_period_given}
use Rattle.og_syntax.proofs.literals.period_value.Goals as goal

pub returns-in-Ok : goal.returns-in-Ok
returns-in-Ok c = period_given c.args.text.now c.in-Ok.period _ c.in-Ok.ensures.value refl

pub returns-in-Err : goal.returns-in-Err
returns-in-Err c = no_period_given c.args.text.now c.in-Err.ensures.refused
