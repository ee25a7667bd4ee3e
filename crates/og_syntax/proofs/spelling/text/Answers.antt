use Rattle.std.proofs.Common.{rules}
use Rattle.og_syntax.proofs.LiteralRules.{text_read, no_text_read}
use Rattle.og_syntax.proofs.spelling.text.Goals as goal

pub returns-in-Ok : goal.returns-in-Ok
returns-in-Ok c = text_read c.args.reading.now.script.now c.args.lexemes.now _ _ _ c.in_ok-bytes.ensures (search rules) (search rules)

pub returns-in-Err-NotText : goal.returns-in-Err-NotText
returns-in-Err-NotText c = no_text_read c.args.reading.now.script.now c.args.lexemes.now _ _ c.in_ok-bytes.ensures (search rules)
