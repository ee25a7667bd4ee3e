use Rattle.std.proofs.Common.{◌≡◌, ◌<◌, subst, take, length, rules, []}
use Rattle.std.specs.List.{All}
use Rattle.std.proofs.lemmas.List.{take_all}
use Rattle.std.proofs.lemmas.List.Elements.{All-more}
use Rattle.og_output.specs.Calendars.{IsOfCalendar}
use Rattle.og_output.proofs.calendar.of_calendar.Goals as goal

pub rows-preserved : goal.rows-preserved
rows-preserved c =
    let rel = c.args.rel.now in
    let within : c.rows.i < length rel = search rules in
    All-more (λ p. All IsOfCalendar p.0) rel c.rows.i ([], []) within c.rows.invariant
    (subst (All IsOfCalendar) (c.row.ensures ([], [])) c.row_of_calendar.ensures)

pub returns : goal.returns
returns c =
    let all : take c.rows.i c.args.rel.now ≡ c.args.rel.now = take_all c.rows.i c.args.rel.now (search rules) in
    rw all at c.rows.invariant
