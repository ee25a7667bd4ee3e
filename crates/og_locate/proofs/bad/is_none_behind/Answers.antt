use Rattle.og_locate.proofs.bad.is_none_behind.Goals as goal

pub returns-in-Date : goal.returns-in-Date
returns-in-Date c = rw c.in-Date.is c.is_no_day_behind.ensures

pub returns-in-Ongoing : goal.returns-in-Ongoing
returns-in-Ongoing c = rw c.in-Ongoing.is c.is_no_point.ensures

pub returns-in-Period : goal.returns-in-Period
returns-in-Period c = rw c.in-Period.is c.is_no_period.ensures
