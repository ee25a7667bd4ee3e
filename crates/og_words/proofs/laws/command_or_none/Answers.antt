use Rattle.og_words.proofs.CommandChoice.{command_or_none}
use Rattle.og_words.proofs.laws.command_or_none.Goals as goal

pub returns : goal.returns
returns c = command_or_none c.a_day_text_or_none.ensures.reference
