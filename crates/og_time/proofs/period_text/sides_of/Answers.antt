use Rattle.og_time.proofs.PeriodTexts.{no_sides_where_none}
use Rattle.og_time.proofs.period_text.sides_of.Goals as goal

pub returns-clause-lacking : goal.returns-clause-lacking
returns-clause-lacking c = no_sides_where_none _ _ c.cut_at.result c.in_ok-inside.ensures.inside c.cut_at.ensures.lacking
