use Rattle.std.proofs.Common.{rules}
use Rattle.og_parse.proofs.Scripts.{whole_sound, no_whole}
use Rattle.og_parse.proofs.piece.read_piece.Goals as goal

pub fault_of-requires-clause-none : goal.fault_of-requires-clause-none
fault_of-requires-clause-none c = no_whole c.args.script.now _ c.args.piece.now c.in-Err-Syntax.field-0 (search rules) c.in-Err-Syntax.ensures

pub returns-in-Ok-clause-good : goal.returns-in-Ok-clause-good
returns-in-Ok-clause-good c = (search rules, whole_sound c.args.script.now _ c.args.piece.now c.in-Ok.stmt c.in-Ok.ensures)
