use Rattle.og_base.proofs.Choices.{none_of}
use Rattle.og_base.proofs.DayChoice.{a_day, ref_day}
use Rattle.og_base.proofs.text_laws.a_day_text_or_none.Goals as goal

pub returns-clause-reference : goal.returns-clause-reference
returns-clause-reference c text = none_of (ref_day text)

pub returns-clause-extended : goal.returns-clause-extended
returns-clause-extended c text = none_of (a_day text)
