use Rattle.std.proofs.Common.{◌≡◌, take, rules}
use Rattle.std.proofs.lemmas.List.{take_all}
use Rattle.og_file.proofs.WriteLemmas.{all_next}
use Rattle.og_output.specs.Calendars.{IsOfCalendar}
use Rattle.og_output.proofs.calendar.row_of_calendar.Goals as goal

pub values-preserved : goal.values-preserved
values-preserved c = all_next IsOfCalendar c.args.row.now c.values.i c.value.result.now c.value.ensures c.values.invariant c.value_of_calendar.ensures

pub returns : goal.returns
returns c =
    let all : take c.values.i c.args.row.now ≡ c.args.row.now = take_all c.values.i c.args.row.now (search rules) in
    rw all at c.values.invariant
