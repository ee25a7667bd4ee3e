use Rattle.std.proofs.Common.{◌∙◌, sym, subst, arith}
use Rattle.std.proofs.lemmas.Int.{ints}
use Rattle.og_base.specs.Calendar.{IsRefDay, IsExtDay, IsDayText}
use Rattle.og_base.proofs.DayTexts.{day_text_is, text_is}
use Rattle.og_base.proofs.SetTexts.{one_day, same_lower_text}
use Rattle.og_base.proofs.set_text.range_of.Goals as goal

pub returns-in_default-clause-none : goal.returns-in_default-clause-none
returns-in_default-clause-none c r is lower upper =
    c.in_default.ensures.refused r.hi (subst (λ t. IsDayText t r.hi) (sym upper) (day_text_is r.hi is.hi_in))

pub returns-then-number-clause-none : goal.returns-then-number-clause-none
returns-then-number-clause-none c r is lower upper =
    let lo = same_lower_text c.in_ok-lo.lo r.lo (subst IsRefDay c.number-2.ensures.value c.number-2.ensures.range) is.lo_in (sym c.in_ok-lo.ensures.read ∙ lower) in
    let hi = one_day _ c.in-Ok.hi r.hi c.in-Ok.ensures.value (subst (λ t. IsDayText t r.hi) (sym upper) (day_text_is r.hi is.hi_in)) in
    omega (arith, ints, lo, hi, is.some, c.number.ensures.value, c.number-2.ensures.value, c.if-number.true)

pub returns-clause-read : goal.returns-clause-read
returns-clause-read c =
    (c.in_ok-lo.ensures.read, text_is _ c.in-Ok.hi (subst IsExtDay c.number.ensures.value c.number.ensures.range) c.in-Ok.ensures.value)
