use Rattle.std.proofs.Common.{◌∙◌, sym}
use Rattle.std.proofs.lemmas.Bool.Decides.{Decides-int_eq}
use Rattle.og_base.specs.Calendar.{first_day}
use Rattle.og_base.proofs.DayTexts.{differ}
use Rattle.og_base.proofs.ReadTexts.{one_ref_day}
use Rattle.og_base.proofs.SetTexts.{no_lower_text, lower_text_is}
use Rattle.og_base.proofs.set_text.lower_of.Goals as goal

pub returns-in_default-clause-none : goal.returns-in_default-clause-none
returns-in_default-clause-none c =
    no_lower_text _ (differ _ _ _ _ c.eq.ensures c.as_slice.ensures c.if-eq.false) (λ n _ is. c.in_default.ensures.refused n is)

pub returns-then-eq-2-clause-none : goal.returns-then-eq-2-clause-none
returns-then-eq-2-clause-none c =
    let first = (Decides-int_eq c.in-Ok.day first_day).0 (sym c.eq-2.ensures ∙ c.if-eq-2.true) in
    no_lower_text _ (differ _ _ _ _ c.eq.ensures c.as_slice.ensures c.if-eq.false) (λ n other is. other (one_ref_day _ n c.in-Ok.day is c.in-Ok.ensures.value ∙ first))

pub returns-clause-read : goal.returns-clause-read
returns-clause-read c =
    lower_text_is _ c.in-Ok.day (λ same. cc (sym ((Decides-int_eq c.in-Ok.day first_day).1 same) ∙ sym c.eq-2.ensures ∙ c.if-eq-2.false)) c.in-Ok.ensures.value
