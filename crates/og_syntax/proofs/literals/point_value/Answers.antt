use Rattle.std.proofs.Common.{refl}
use Rattle.og_syntax.proofs.LiteralRules.{point_given, no_point_given}
use Rattle.og_syntax.proofs.literals.point_value.Goals as goal

pub returns-in-Ok : goal.returns-in-Ok
returns-in-Ok c = point_given c.args.text.now c.in-Ok.point _ c.in-Ok.ensures.value refl

pub returns-in-Err : goal.returns-in-Err
returns-in-Err c = no_point_given c.args.text.now c.in-Err.ensures.refused
