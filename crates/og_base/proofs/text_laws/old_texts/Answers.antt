use Rattle.jiff_core.proofs.DateLemmas.{days_from_civil-max}
use Rattle.og_base.proofs.OldTexts.{days_from_civil-first, IsDayText-old, IsOldRefDay-text, old_day-text}
use Rattle.og_base.proofs.OldSetTexts.{set_text-old, old_set-text}
use Rattle.og_base.proofs.text_laws.old_texts.Goals as goal

pub returns-clause-first : goal.returns-clause-first
returns-clause-first c = days_from_civil-first

pub returns-clause-last : goal.returns-clause-last
returns-clause-last c = days_from_civil-max

pub returns-clause-range : goal.returns-clause-range
returns-clause-range c = IsOldRefDay-text

pub returns-clause-day : goal.returns-clause-day
returns-clause-day c = IsDayText-old

pub returns-clause-each_day : goal.returns-clause-each_day
returns-clause-each_day c = old_day-text

pub returns-clause-set : goal.returns-clause-set
returns-clause-set c = set_text-old

pub returns-clause-each_set : goal.returns-clause-each_set
returns-clause-each_set c = old_set-text
