use Rattle.std.proofs.Common.{refl, rules}
use Rattle.og_time.proofs.PointWriting.{IsPointText-point_text}
use Rattle.og_time.proofs.PeriodTexts.{IsPeriodText-period_text}
use Rattle.og_value.proofs.CellTexts.{int_text-read}
use Rattle.og_value.proofs.cell.write_cell.Goals as goal

pub returns-in-Int-clause-read_again : goal.returns-in-Int-clause-read_again
returns-in-Int-clause-read_again c = rw c.in-Int.is (c.in-Int.n, int_text-read c.in-Int.n (search rules), refl)

pub returns-in-Text-clause-read_again : goal.returns-in-Text-clause-read_again
returns-in-Text-clause-read_again c = rw c.in-Text.is (c.utf8-2.ensures, refl)

pub returns-in-Point-clause-read_again : goal.returns-in-Point-clause-read_again
returns-in-Point-clause-read_again c = rw c.in-Point.is (c.in-Point.point, IsPointText-point_text c.in-Point.point c.ordered.ensures, refl)

pub returns-in-Period-clause-read_again : goal.returns-in-Period-clause-read_again
returns-in-Period-clause-read_again c =
    rw c.in-Period.is (c.in-Period.period, IsPeriodText-period_text c.in-Period.period c.ordered-in-Period.ensures, refl)
