use Rattle.og_base.proofs.TextForms.{IsPlainDayText-ref_day, IsRefDayText-plain}
use Rattle.og_base.proofs.text_laws.form_of_day_texts.Goals as goal

pub returns-clause-form : goal.returns-clause-form
returns-clause-form c text n = (IsPlainDayText-ref_day text n, IsRefDayText-plain text n)
