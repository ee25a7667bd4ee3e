use Rattle.og_base.proofs.DayTexts.{differ}
use Rattle.og_base.proofs.SetTexts.{no_set_text}
use Rattle.og_base.proofs.set_text.read_rt.Goals as goal

pub returns-clause-not_a_set : goal.returns-clause-not_a_set
returns-clause-not_a_set c h =
    no_set_text _ _ c.in-Some.ensures.behind (differ _ _ _ _ c.eq.ensures c.as_slice.ensures c.if-eq.false) (c.read_ranges.ensures.not_a_set h)
