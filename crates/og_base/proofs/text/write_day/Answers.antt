use Rattle.std.proofs.Common.{◌≡◌, ◌∙◌, ◌++◌, OnOk, sym, ap, subst, arith}
use Rattle.std.proofs.lemmas.Int.{ints}
use Rattle.jiff_core.specs.Date.{epoch_day}
use Rattle.og_base.specs.Calendar.{day_text}
use Rattle.og_base.proofs.DayTexts.{day_text-epoch_day}
use Rattle.og_base.proofs.text.write_day.Goals as goal

pub returns-clause-written : goal.returns-clause-written
returns-clause-written c =
    let number : epoch_day c.in-Ok.date ≡ c.args.day = grind (arith, ints, c.in-Ok.ensures.value, c.from.ensures, c.number.ensures.value, c.in-Some.ensures) in
    subst (λ t. OnOk c.write_date.result (c.write_date.new.out.items ≡ c.args.out.now.items ++ t)) (sym (day_text-epoch_day c.in-Ok.date) ∙ ap day_text number) c.write_date.ensures.written
