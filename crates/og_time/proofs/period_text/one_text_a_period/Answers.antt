use Rattle.og_time.proofs.PeriodTexts.{period_text-is, one_period, IsPeriodText-period_text}
use Rattle.og_time.proofs.period_text.one_text_a_period.Goals as goal

pub returns-clause-one_text : goal.returns-clause-one_text
returns-clause-one_text c = period_text-is

pub returns-clause-one_period : goal.returns-clause-one_period
returns-clause-one_period c = one_period

pub returns-clause-written : goal.returns-clause-written
returns-clause-written c = IsPeriodText-period_text
