use Rattle.og_base.proofs.SetTexts.{ends_no_comma, ends_no_bracket}
use Rattle.og_base.proofs.set_text.cut_ends.Goals as goal

pub returns-in_err-lower-clause-none : goal.returns-in_err-lower-clause-none
returns-in_err-lower-clause-none c =
    rw c.from_residual-in_err-lower.ensures (ends_no_comma _ _ c.in_ok-inside.ensures.behind c.in_err-lower.ensures.lacking)

pub returns-in_err-upper-clause-none : goal.returns-in_err-upper-clause-none
returns-in_err-upper-clause-none c =
    rw c.from_residual-in_err-upper.ensures (ends_no_bracket _ _ _ _ c.in_ok-inside.ensures.behind c.in_ok-lower.ensures.cut c.in_err-upper.ensures.lacking)
