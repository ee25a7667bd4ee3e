use Rattle.std.proofs.Common.{refl, rules, inl, subst}
use Rattle.og_base.specs.Calendar.{IsExtDay}
use Rattle.og_base.proofs.DayTexts.{day_text_is}
use Rattle.og_value.proofs.CellTexts.{int_text-read, fixed_period, fixed_period-read}
use Rattle.og_value.proofs.cell.write_fixed.Goals as goal

pub returns-in-Int-clause-read_again : goal.returns-in-Int-clause-read_again
returns-in-Int-clause-read_again c = rw c.in-Int.is (c.in-Int.n, int_text-read c.in-Int.n (search rules), refl)

pub returns-in-Date-clause-read_again : goal.returns-in-Date-clause-read_again
returns-in-Date-clause-read_again c =
    rw c.in-Date.is (record { low = c.in-Date.day; high = c.in-Date.day }, inl (day_text_is c.in-Date.day (subst IsExtDay c.number.ensures.value c.number.ensures.range), refl), refl)

pub returns-in-Period-clause-read_again : goal.returns-in-Period-clause-read_again
returns-in-Period-clause-read_again c =
    rw c.in-Period.is (
      fixed_period c.in-Period.period,
      fixed_period-read c.in-Period.period
          (subst IsExtDay c.number-in-Period.ensures.value c.number-in-Period.ensures.range)
          (subst IsExtDay c.number-in-Period-2.ensures.value c.number-in-Period-2.ensures.range),
      refl,
    )
