use Rattle.og_words.proofs.OneCommand.{one_command}
use Rattle.og_words.proofs.laws.one_command.Goals as goal

pub returns : goal.returns
returns c = one_command c.one_text_a_day.ensures.one_day
