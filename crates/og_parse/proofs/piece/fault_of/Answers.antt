use Rattle.std.proofs.Common.{refl, rules}
use Rattle.og_parse.proofs.Scripts.{whole_sound, no_whole}
use Rattle.og_parse.proofs.piece.fault_of.Goals as goal

pub returns-in-Ok : goal.returns-in-Ok
returns-in-Ok c = (refl, c.requires.flat, c.requires.none, c.in-Ok.stmt, whole_sound c.args.script.now _ c.args.piece.now c.in-Ok.stmt c.in-Ok.ensures)

pub returns-in-Err-Syntax : goal.returns-in-Err-Syntax
returns-in-Err-Syntax c = (refl, c.requires.flat, no_whole c.args.script.now _ c.args.piece.now c.in-Err-Syntax.field-0 (search rules) c.in-Err-Syntax.ensures)
