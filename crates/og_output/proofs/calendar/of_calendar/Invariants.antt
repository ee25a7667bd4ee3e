use Rattle.std.proofs.Common.{take}
use Rattle.og_output.specs.Calendars.{AreOfCalendar}
use Rattle.og_output.proofs.calendar.of_calendar.Given as goal

abbrev pub invariant-rows : goal.invariant-rows
invariant-rows l = AreOfCalendar (take l.i l.rel)
