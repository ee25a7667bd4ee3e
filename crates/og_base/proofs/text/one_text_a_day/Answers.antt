use Rattle.og_base.proofs.DayTexts.{one_text, day_text_is, Lacks-day_text}
use Rattle.og_base.proofs.text.one_text_a_day.Goals as goal

pub returns-clause-one_text : goal.returns-clause-one_text
returns-clause-one_text c = one_text

pub returns-clause-written : goal.returns-clause-written
returns-clause-written c = day_text_is

pub returns-clause-bytes : goal.returns-clause-bytes
returns-clause-bytes c s n b h is = Lacks-day_text b s n h is
