use Rattle.og_time.proofs.OldTexts.{IsPointText-old, IsPeriodText-old, old_point-text, old_period-text}
use Rattle.og_time.proofs.text_laws.old_texts.Goals as goal

pub returns-clause-points : goal.returns-clause-points
returns-clause-points c = IsPointText-old

pub returns-clause-periods : goal.returns-clause-periods
returns-clause-periods c = IsPeriodText-old

pub returns-clause-each_point : goal.returns-clause-each_point
returns-clause-each_point c = old_point-text

pub returns-clause-each_period : goal.returns-clause-each_period
returns-clause-each_period c = old_period-text
