use Rattle.std.proofs.Common.{◌∙◌}
use Rattle.og_parse.proofs.StatementRules.{ref_day_read}
use Rattle.og_parse.proofs.endings.ref_day_of.Goals as goal

pub returns : goal.returns
returns c = c.ok.ensures.value ∙ ref_day_read c.args.text.now c.read_ref_day.result c.read_ref_day.ensures.value c.read_ref_day.ensures.refused
