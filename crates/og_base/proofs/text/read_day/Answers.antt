use Rattle.std.proofs.Common.{inr}
use Rattle.std.proofs.lemmas.Result.{err_from_is_err_and}
use Rattle.og_base.proofs.DayTexts.{differ, no_day_text}
use Rattle.og_base.proofs.text.read_day.Goals as goal

pub returns-in_err-day-clause-refused : goal.returns-in_err-day-clause-refused
returns-in_err-day-clause-refused c =
    let p = err_from_is_err_and c.from_residual.result c.from_residual.ensures.1 in
    rw p.1 (no_day_text _ (differ _ _ _ _ c.eq.ensures c.as_slice.ensures c.if-eq.false) (differ _ _ _ _ c.eq-2.ensures c.as_slice-2.ensures c.if-eq-2.false) c.in_err-day.ensures.refused)

pub returns-clause-value : goal.returns-clause-value
returns-clause-value c = inr (inr (rw c.of.ensures c.in_ok-day.ensures.value))
