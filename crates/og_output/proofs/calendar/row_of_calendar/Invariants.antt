use Rattle.std.proofs.Common.{take}
use Rattle.std.specs.List.{All}
use Rattle.og_output.specs.Calendars.{IsOfCalendar}
use Rattle.og_output.proofs.calendar.row_of_calendar.Given as goal

abbrev pub invariant-values : goal.invariant-values
invariant-values l = All IsOfCalendar (take l.i l.row)
