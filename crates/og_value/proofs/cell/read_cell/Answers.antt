use Rattle.std.proofs.Common.{◌∙◌, Err, ap, refl, subst, sym}
use Rattle.std.specs.Str.{IsUtf8}
use Rattle.og_value.specs.Cells.{IsCell}
use Rattle.og_value.specs.declared.value.Value.TheVariants as v
use Rattle.og_value.proofs.cell.read_cell.Goals as goal

pub returns-in-Err-clause-not_a_cell : goal.returns-in-Err-clause-not_a_cell
returns-in-Err-clause-not_a_cell c _ v h =
    let cell = subst (λ kind. IsCell kind c.args.text.now v) c.in-Date.is h in c.in-Err.ensures.refused cell.0 cell.1

pub returns-in-Err-read_period-clause-not_a_cell : goal.returns-in-Err-read_period-clause-not_a_cell
returns-in-Err-read_period-clause-not_a_cell c _ v h =
    let cell = subst (λ kind. IsCell kind c.args.text.now v) c.in-Period.is h in c.in-Err-read_period.ensures.refused cell.0 cell.1

pub returns-in-Some-clause-refused : goal.returns-in-Some-clause-refused
returns-in-Some-clause-refused c h =
    absurd (h (v.Int c.in-Some.n) (subst (λ kind. IsCell kind c.args.text.now (v.Int c.in-Some.n)) (sym c.in-Int.is) (c.in-Some.n, c.in-Some.ensures.number, refl)))

pub returns-in-Ok-clause-refused : goal.returns-in-Ok-clause-refused
returns-in-Ok-clause-refused c h =
    absurd (h (v.Text c.args.text.now) (subst (λ kind. IsCell kind c.args.text.now (v.Text c.args.text.now)) (sym c.in-Text.is) (c.in-Ok.ensures.utf8, refl)))

pub returns-in-Err-NoMemory-clause-refused : goal.returns-in-Err-NoMemory-clause-refused
returns-in-Err-NoMemory-clause-refused c h =
    let other : ¬ IsUtf8 c.args.text.now = λ is. h (v.Text c.args.text.now) (subst (λ kind. IsCell kind c.args.text.now (v.Text c.args.text.now)) (sym c.in-Text.is) (is, refl)) in
    cc (sym (ap Err c.in-Err-NoMemory.field-0-is) ∙ c.in-Err-NoMemory.ensures.refused other)

pub returns-in-Ok-read_point-clause-refused : goal.returns-in-Ok-read_point-clause-refused
returns-in-Ok-read_point-clause-refused c h =
    let point = c.in-Ok-read_point.point in
    absurd (h (v.Point point) (subst (λ kind. IsCell kind c.args.text.now (v.Point point)) (sym c.in-Date.is) (point, c.in-Ok-read_point.ensures.value, refl)))

pub returns-in-Ok-read_period-clause-refused : goal.returns-in-Ok-read_period-clause-refused
returns-in-Ok-read_period-clause-refused c h =
    let period = c.in-Ok-read_period.period in
    absurd (h (v.Period period) (subst (λ kind. IsCell kind c.args.text.now (v.Period period)) (sym c.in-Period.is) (period, c.in-Ok-read_period.ensures.value, refl)))
