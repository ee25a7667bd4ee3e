use Rattle.og_time.proofs.PeriodTexts.{sides_are_texts}
use Rattle.og_time.proofs.period_text.read_period.Goals as goal

pub returns-in_default-read_point-clause-refused : goal.returns-in_default-read_point-clause-refused
returns-in_default-read_point-clause-refused c i is = c.in_default-read_point.ensures.refused i.start (sides_are_texts _ _ _ i c.in-Some.ensures.sides is).0

pub returns-in_default-read_point-2-clause-refused : goal.returns-in_default-read_point-2-clause-refused
returns-in_default-read_point-2-clause-refused c i is = c.in_default-read_point-2.ensures.refused i.end (sides_are_texts _ _ _ i c.in-Some.ensures.sides is).1

pub returns-clause-value : goal.returns-clause-value
returns-clause-value c = rw c.new.ensures.ends (_, _, c.in-Some.ensures.sides.joined, c.in-Ok.ensures.value, c.in-Ok-read_point.ensures.value)
